use Rattle.std.proofs.Common.{◌≡◌, List, ℕ, Any, sym, subst}
use Rattle.plum_base.proofs.Areas.{area_among}
use Rattle.plum_base.proofs.sites.numbers_in.Goals as goal

pub area_number-requires-clause-one : goal.area_number-requires-clause-one
area_number-requires-clause-one c =
    let P : List (List ℕ) → Type 0 = λ xs. Any (λ a. a ≡ c.target-item.result.area) xs in
    subst P (sym c.requires.all)
    (area_among c.args.targets.now c.loop-target.target-index _ c.loop-target-test.true
    c.target-item.is)
