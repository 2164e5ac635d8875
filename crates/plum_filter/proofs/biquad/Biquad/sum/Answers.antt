use Rattle.std.proofs.Common.{◌+ℤ◌, w32, w64, to_z-of_z, FitsSigned, ap, arith, rules}
use Rattle.std.proofs.lemmas.Int.{ints}
use Rattle.plum_filter.proofs.biquad.Biquad.sum.Goals as goal

pub returns : goal.returns
returns c =
    let b = c.args.self.now in
    let next : FitsSigned w64 b.next = omega (arith, ints) in
    let newest : FitsSigned w64 c.product.result = omega (arith, ints) in
    let both : FitsSigned w64 (b.next +ℤ c.product.result) = omega (arith, ints) in
    let x : FitsSigned w32 c.args.x = c.ranges.x in
    let b0 : FitsSigned w32 b.stage.b0 = search rules in
    let is = simp to_z-of_z at c.product.ensures.value in
    simp to_z-of_z (ap (λ p. b.next +ℤ p) is)
