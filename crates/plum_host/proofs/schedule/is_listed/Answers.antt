use Rattle.std.proofs.Common.{◌≡◌, ◌==◌, ◌<◌, ◌^◌, get_or, ◌∙◌, arith}
use Rattle.std.proofs.lemmas.Bool.{eqb-true}
use Rattle.std.proofs.lemmas.List.{get_or_default}
use Rattle.std.proofs.lemmas.List.Folds.{Any-from_list_any}
use Rattle.std.proofs.Math.Facts.{Fits-lt-pow}
use Rattle.plum_host.proofs.schedule.is_listed.Goals as goal

-- a number that is listed is one of the list
pub returns-clause-bound : goal.returns-clause-bound
returns-clause-bound c = λ n listed.
    let numbers = c.args.numbers.now in
    let found = Any-from_list_any (λ m. m == n) numbers listed in
    let at : get_or numbers found.0 0 ≡ n =
    get_or_default numbers found.0 0 found.1 found.2 ∙ found.3 ∙ eqb-true found.1 n found.4 in
    let fits : get_or numbers found.0 0 < 2 ^ 32 = Fits-lt-pow (c.type_inv.numbers found.0) in
    omega arith
