use Rattle.std.proofs.Common.{◌-ℤ◌, w32, w64, to_z-of_z, FitsSigned, arith}
use Rattle.std.proofs.lemmas.Int.{ints}
use Rattle.plum_filter.proofs.biquad.added.Goals as goal

pub returns-clause-value : goal.returns-clause-value
returns-clause-value c =
    let input = c.product.result in
    let output = c.product-2.result in
    let first : FitsSigned w64 input = omega (arith, ints) in
    let second : FitsSigned w64 output = omega (arith, ints) in
    let both : FitsSigned w64 (input -ℤ output) = omega (arith, ints) in
    let b : FitsSigned w32 c.args.b = c.ranges.b in
    let x : FitsSigned w32 c.args.x = c.ranges.x in
    let a : FitsSigned w32 c.args.a = c.ranges.a in
    let y : FitsSigned w32 c.args.y = c.ranges.y in
    let of_input = simp to_z-of_z at c.product.ensures.value in
    let of_output = simp to_z-of_z at c.product-2.ensures.value in
    simp to_z-of_z (cc)

pub returns-clause-bound : goal.returns-clause-bound
returns-clause-bound c = omega (arith, ints)
