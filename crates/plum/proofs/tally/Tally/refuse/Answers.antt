use Rattle.std.proofs.Common.{refl}
use Rattle.plum.proofs.Tallying.{tallied_refused}
use Rattle.plum.proofs.tally.Tally.refuse.Goals as goal

pub returns-clause-takes : goal.returns-clause-takes
returns-clause-takes c = λ stations number fault bodies has.
    tallied_refused c.args.self.now _ stations number bodies has fault refl refl refl refl
