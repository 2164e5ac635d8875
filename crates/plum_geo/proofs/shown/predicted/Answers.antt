use Rattle.std.proofs.Common.{Some, None, refl}
use Rattle.plum_geo.proofs.Showing.{IsBest-over}
use Rattle.plum_geo.proofs.shown.predicted.Goals as goal

pub returns-in-None-clause-over : goal.returns-in-None-clause-over
returns-in-None-clause-over c = λ values stations entries shown best.
    let none = rw c.in-None.is at best in
    (None, IsBest-over values stations entries c.args.target.now.at None shown none, refl)

pub returns-in-Some-clause-over : goal.returns-in-Some-clause-over
returns-in-Some-clause-over c = λ values stations entries shown best.
    let some = rw c.in-Some.is at best in (
      Some c.in-Some.best,
      IsBest-over values stations entries c.args.target.now.at (Some c.in-Some.best) shown some,
      c.plus.ensures,
    )
