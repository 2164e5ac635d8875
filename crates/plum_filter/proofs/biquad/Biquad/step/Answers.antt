use Rattle.std.proofs.Common.{◌^◌, ◌≤◌, ◌+ℤ◌, w32, w64, to_z-of_z, FitsSigned, arith, rules}
use Rattle.std.proofs.lemmas.Int.{ints}
use Rattle.plum_filter.specs.Filter.{half_of}
use Rattle.plum_filter.proofs.Biquads.{half_of-bound, moved_on_is}
use Rattle.plum_filter.proofs.biquad.Biquad.step.Goals as goal

pub overflow_add-self : goal.overflow_add-self
overflow_add-self c = omega (arith, ints)

pub overflow_add-self-2 : goal.overflow_add-self-2
overflow_add-self-2 c =
    let s = c.args.self.now.stage in
    let small : half_of s.round s.q ≤ 2 ^ 29 =
    half_of-bound s.round s.q c.requires.biquad.stage.q_high in
    omega (arith, ints)

pub returns-clause-value : goal.returns-clause-value
returns-clause-value c =
    let x : FitsSigned w32 c.args.x = c.ranges.x in
    let y : FitsSigned w32 c.answer-y.result = search rules in
    let answered = simp to_z-of_z at c.answer-y.ensures.value in
    simp to_z-of_z answered

pub returns-clause-state : goal.returns-clause-state
returns-clause-state c =
    let b = c.args.self.now in
    let s = b.stage in
    let small : half_of s.round s.q ≤ 2 ^ 29 =
    half_of-bound s.round s.q c.requires.biquad.stage.q_high in
    let x : FitsSigned w32 c.args.x = c.ranges.x in
    let y : FitsSigned w32 c.answer-y.result = search rules in
    let b1 : FitsSigned w32 s.b1 = search rules in
    let a1 : FitsSigned w32 s.a1 = search rules in
    let b2 : FitsSigned w32 s.b2 = search rules in
    let a2 : FitsSigned w32 s.a2 = search rules in
    let half : FitsSigned w64 b.half = search rules in
    let later : FitsSigned w64 b.later = search rules in
    let first : FitsSigned w64 c.added.result = search rules in
    let second : FitsSigned w64 c.added-2.result = search rules in
    let next_sum : FitsSigned w64 (b.later +ℤ c.added.result) = omega (arith, ints) in
    let later_sum : FitsSigned w64 (b.half +ℤ c.added-2.result) = omega (arith, ints) in
    let answered = simp to_z-of_z at c.answer-y.ensures.value in
    let one = simp to_z-of_z at c.added.ensures.value in
    let two = simp to_z-of_z at c.added-2.ensures.value in
    simp to_z-of_z (moved_on_is b c.args.x _ _ _ answered one two)

pub returns-clause-biquad : goal.returns-clause-biquad
returns-clause-biquad c =
    let s = c.args.self.now.stage in
    let small : half_of s.round s.q ≤ 2 ^ 29 =
    half_of-bound s.round s.q c.requires.biquad.stage.q_high in
    record {
      stage = c.requires.biquad.stage;
      half = c.requires.biquad.half;
      next = omega (arith, ints);
      later = omega (arith, ints);
    }
