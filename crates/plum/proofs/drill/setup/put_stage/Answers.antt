use Rattle.std.proofs.Common.{ℕ, List, codes, w32, FitsSigned, rules}
use Rattle.std.proofs.lemmas.Result.{on_ok_weaker}
use Rattle.plum.specs.DrillSetup.{integer_line, natural_line, text_line}
use Rattle.plum.proofs.Putting.{joined, as_passed, as_same}
use Rattle.plum.proofs.drill.setup.put_stage.Goals as goal

pub returns : goal.returns
returns c =
    let start : List ℕ = c.args.text.now in
    let s = c.args.stage.now in
    let fits_b0 : FitsSigned w32 s.b0 = search rules in
    let fits_b1 : FitsSigned w32 s.b1 = search rules in
    let fits_b2 : FitsSigned w32 s.b2 = search rules in
    let fits_a1 : FitsSigned w32 s.a1 = search rules in
    let fits_a2 : FitsSigned w32 s.a2 = search rules in
    let b0 = as_passed _ _ (integer_line (codes "b0")) _ fits_b0
    c.in_ok-put_integer_line.ensures in
    let b1 = as_passed _ _ (integer_line (codes "b1")) _ fits_b1
    c.in_ok-put_integer_line-2.ensures in
    let b2 = as_passed _ _ (integer_line (codes "b2")) _ fits_b2
    c.in_ok-put_integer_line-3.ensures in
    let a1 = as_passed _ _ (integer_line (codes "a1")) _ fits_a1
    c.in_ok-put_integer_line-4.ensures in
    let a2 = as_passed _ _ (integer_line (codes "a2")) _ fits_a2
    c.in_ok-put_integer_line-5.ensures in
    let q = as_same _ _ (natural_line (codes "q")) _ _ c.from.ensures
    c.in_ok-put_natural_line.ensures in
    let table = joined start _ _ _ _ c.in_ok-extend.ensures.ok b0 in
    let zeros = joined start _ _ _ _ (joined start _ _ _ _ table b1) b2 in
    let poles = joined start _ _ _ _ (joined start _ _ _ _ zeros a1) a2 in
    on_ok_weaker c.put_text_line.result (λ put.
    joined start _ _ _ _ (joined start _ _ _ _ poles q)
    (as_same _ _ (text_line (codes "round")) _ _ c.rounding_text.ensures put))
    c.put_text_line.ensures
