use Rattle.std.proofs.Common.{◌^◌, pos, w32, w64, to_z-of_z, FitsSigned, ◌∙◌, ap, rules}
use Rattle.std.specs.Int.{int_div_euclid}
use Rattle.plum_filter.specs.Stage.{clamped}
use Rattle.plum_filter.proofs.biquad.Biquad.answer.Goals as goal

pub returns-clause-value : goal.returns-clause-value
returns-clause-value c =
    let s = c.args.self.now.stage in
    let x : FitsSigned w32 c.args.x = c.ranges.x in
    let sum : FitsSigned w64 c.sum.result = search rules in
    let quotient : FitsSigned w64 c.divided.result = search rules in
    let answer : FitsSigned w32 c.clamp_term.result = search rules in
    let of_sum = simp to_z-of_z at c.sum.ensures in
    let of_quotient = simp to_z-of_z at c.divided.ensures in
    let of_answer = simp to_z-of_z at c.clamp_term.ensures.value in
    simp to_z-of_z
    (of_answer ∙ ap clamped (of_quotient ∙ ap (λ sum. int_div_euclid sum (pos (2 ^ s.q))) of_sum))
