use Rattle.std.proofs.Common.{◌≡◌, pos, ◌*ℤ◌, w32, w64, to_z, to_z-of_z, FitsSigned, arith, ◌∙◌, ap}
use Rattle.std.proofs.lemmas.Int.{to_z_pos, ints}
use Rattle.plum_filter.specs.Stage.{clamped}
use Rattle.plum_engine.proofs.Signals.{int_shr_is, product_fits, quotient_fits}
use Rattle.std.specs.Int.{int_shr}
use Rattle.plum_engine.proofs.gain.signal.Goals as goal

pub returns-clause-value : goal.returns-clause-value
returns-clause-value c =
    let count = c.args.count in
    let g = c.args.gain.g in
    let narrow : FitsSigned w32 count = c.ranges.count in
    let wide : FitsSigned w64 count = omega (arith, ints) in
    let factor : to_z w64 g ≡ pos g = to_z_pos w64 g (omega arith) in
    let product : FitsSigned w64 (count *ℤ pos g) = product_fits count g narrow (omega arith) in
    let quotient : FitsSigned w64 (int_shr (count *ℤ pos g) c.args.gain.h) =
    quotient_fits _ c.args.gain.h product in
    let short : FitsSigned w32 c.clamp_term.result = omega (arith, ints) in
    let value = simp (factor, to_z-of_z) at c.clamp_term.ensures.value in
    simp to_z-of_z (value ∙ ap clamped (int_shr_is (count *ℤ pos g) c.args.gain.h))
