use Rattle.std.proofs.Common.{ℕ, List, codes, w16, w32, FitsSigned, ap, ◌∙◌, rules}
use Rattle.std.proofs.lemmas.Int.{to_z-of_z}
use Rattle.plum_base.specs.declared.numbers.Tenths.{Tenths}
use Rattle.std.proofs.lemmas.Result.{on_ok_weaker}
use Rattle.plum.specs.DrillSetup.{integer_line, numbers_text}
use Rattle.plum.proofs.Putting.{joined, as_passed, as_same}
use Rattle.plum.proofs.drill.setup.put_levels.Goals as goal

pub returns : goal.returns
returns c =
    let start : List ℕ = c.args.text.now in
    let thresholds = as_same _ _ numbers_text _ _ c.thresholds.ensures.value
    c.in_ok-put_numbers.ensures in
    let fits : FitsSigned w32 c.from.result = search rules in
    let fits_base : FitsSigned w16 c.base.result.0 = search rules in
    let base = as_same _ _ (integer_line (codes "base")) _ _
    (c.from.ensures ∙ to_z-of_z w16 c.base.result.0 fits_base
    ∙ ap (λ (t : Tenths). t.0) c.base.ensures.value)
    (as_passed _ _ (integer_line (codes "base")) _ fits c.in_ok-put_integer_line.ensures) in
    on_ok_weaker c.extend-3.result (λ put.
    joined start _ _ _ _ (joined start _ _ _ _ (joined start _ _ _ _
    (joined start _ _ _ _ c.in_ok-extend.ensures.ok base) c.in_ok-extend-2.ensures.ok) thresholds)
    put)
    c.extend-3.ensures.ok
