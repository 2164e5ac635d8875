use Rattle.std.proofs.Common.{ℕ, List, w16, w32, FitsSigned, rules}
use Rattle.std.proofs.lemmas.Int.{to_z-of_z}
use Rattle.std.proofs.lemmas.Result.{on_ok_weaker}
use Rattle.plum.specs.DrillSites.{integer_field}
use Rattle.plum.proofs.Putting.{joined, as_passed, as_same}
use Rattle.plum.proofs.drill.sites.put_place.Goals as goal

pub returns : goal.returns
returns c =
    let start : List ℕ = c.args.text.now in
    let fits_x : FitsSigned w32 c.args.at.x = search rules in
    let fits_y : FitsSigned w32 c.args.at.y = search rules in
    let x = as_passed _ _ integer_field _ fits_x c.in_ok-put_field.ensures in
    let y = as_passed _ _ integer_field _ fits_y c.in_ok-put_field-2.ensures in
    let fits : FitsSigned w32 c.from.result = search rules in
    let fits_factor : FitsSigned w16 c.args.factor.0 = search rules in
    let factor = as_same _ _ integer_field _ _ (to_z-of_z w16 c.args.factor.0 fits_factor)
    (as_same _ _ integer_field _ _ c.from.ensures
    (as_passed _ _ integer_field _ fits c.in_ok-put_field-3.ensures)) in
    on_ok_weaker c.extend.result (λ put.
    joined start _ _ _ _ (joined start _ _ _ _ (joined start _ _ _ _ x y) factor) put)
    c.extend.ensures.ok
