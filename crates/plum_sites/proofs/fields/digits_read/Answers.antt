use Rattle.std.proofs.Common.{◌<◌, arith, ◌∙◌, ap, get_or, length, pos}
use Rattle.std.proofs.lemmas.Int.{ints, to_z_pos}
use Rattle.std.specs.Int.{w32}
use Rattle.std.proofs.lemmas.Int.Digits.{digits_more, digits_value_more}
use Rattle.std.proofs.lemmas.Bool.Decides.{nat_tests}
use Rattle.std.proofs.lemmas.List.{take_all}
use Rattle.std.proofs.lemmas.Str.Parse.{digit_at}
use Rattle.plum_sites.proofs.Digits.{digit_is, taken_small}
use Rattle.plum_sites.proofs.fields.digits_read.Goals as goal

pub returns-then-not-is_ascii_digit-clause-none : goal.returns-then-not-is_ascii_digit-clause-none
returns-then-not-is_ascii_digit-clause-none c h =
    let d = digit_at c.args.digits.now c.loop-digit.digit-index h.0.1 (omega arith) in
    let out = rw c.if-not-is_ascii_digit.true at c.is_ascii_digit.ensures.cases in
    grind arith

pub overflow_mul-number : goal.overflow_mul-number
overflow_mul-number c =
    let s = taken_small c.args.digits.now c.loop-digit.digit-index 8
    c.loop-digit.invariant.digits (omega arith) in
    omega (arith, s, c.loop-digit.invariant.value)

pub overflow_add-number : goal.overflow_add-number
overflow_add-number c =
    let s = taken_small c.args.digits.now c.loop-digit.digit-index 8
    c.loop-digit.invariant.digits (omega arith) in
    omega (arith, s, c.loop-digit.invariant.value)

pub loop-digit-preserved : goal.loop-digit-preserved
loop-digit-preserved c =
    let ds = c.args.digits.now in
    let i = c.loop-digit.digit-index in
    let d = rw c.if-not-is_ascii_digit.false at c.is_ascii_digit.ensures.cases in
    let small = rw c.if-not-is_ascii_digit.false at c.is_ascii_digit.ensures.bound in
    let more = digits_value_more 10 ds i (omega arith) in
    let is = digit_is (get_or ds i 0) d in
    record {
      digits = digits_more 10 ds i (omega arith) c.loop-digit.invariant.digits small;
      value = omega (arith, more, is, c.loop-digit.invariant.value, c.from.ensures);
    }

pub overflow_cast-result : goal.overflow_cast-result
overflow_cast-result c =
    let s = taken_small c.args.digits.now c.loop-digit.digit-index 9
    c.loop-digit.invariant.digits (omega arith) in
    omega (arith, ints, s, c.loop-digit.invariant.value)

pub returns-clause-number : goal.returns-clause-number
returns-clause-number c =
    let ds = c.args.digits.now in
    let all = take_all c.loop-digit.digit-index ds (omega arith) in
    let digits = rw all at c.loop-digit.invariant.digits in
    let value = rw all at c.loop-digit.invariant.value in
    let some : 0 < length ds = grind (arith, nat_tests) in
    let small = taken_small ds c.loop-digit.digit-index 9 c.loop-digit.invariant.digits
    (omega arith) in
    (((some, digits), omega arith), to_z_pos w32 c.loop-digit.number (omega arith) ∙ ap pos value)
