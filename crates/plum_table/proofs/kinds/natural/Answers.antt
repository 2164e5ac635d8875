use Rattle.std.proofs.Common.{◌≡◌, ◌∙◌, ap, arith, pos, to_z, of_z, w64}
use Rattle.std.proofs.lemmas.Int.{ints}
use Rattle.std.specs.Prelude.{Ok, nat_abs}
use Rattle.plum_table.specs.Kinds.{◌>>=◌}
use Rattle.plum_table.proofs.kinds.natural.Goals as goal

pub overflow_cast-result : goal.overflow_cast-result
overflow_cast-result c = grind (arith, ints, c.in_ok-integer.ensures.range)

pub returns-clause-value : goal.returns-clause-value
returns-clause-value c =
    let same : c.unsigned_abs.result ≡ nat_abs c.in_ok-integer.field-0 =
    grind (arith, ints, c.unsigned_abs.ensures.value) in
    let low : to_z w64 (of_z w64 c.from-low.result) ≡ pos c.args.bounds.low =
    grind (arith, ints, c.from-low.ensures) in
    let high : to_z w64 (of_z w64 c.from-high.result) ≡ pos c.args.bounds.high =
    grind (arith, ints, c.from-high.ensures) in
    let read = c.in_ok-integer.ensures.value in
    ap Ok same ∙ ap (λ r. r >>= (λ z. Ok (nat_abs z))) read ∙ rw (low, high)

pub returns-clause-range : goal.returns-clause-range
returns-clause-range c = grind (arith, ints, c.in_ok-integer.ensures.range)
