use Rattle.std.proofs.Common.{◌≡◌, ℕ, ◌+◌, ◌*◌, ◌%◌, ◌≤◌, pos, ◌-ℤ◌, ap, ◌∙◌, w32, arith, rules}
use Rattle.std.proofs.Common.{FitsSigned}
use Rattle.std.specs.Int.{cast_signed, cast_unsigned}
use Rattle.std.proofs.lemmas.Int.{ints, to_z-of_z, to_z_pos}
use Rattle.plum.specs.DrillCapture.{component_at}
use Rattle.plum.proofs.drill.generator.Generator.component.Goals as goal

less : (r a : ℕ) → r ≤ 2 * a → a ≤ 60100
    → cast_signed w32 (cast_unsigned w32 (cast_signed w32 r -ℤ cast_signed w32 a)) ≡ pos r -ℤ pos a
less r a hr ha =
    let er : cast_signed w32 r ≡ pos r = to_z_pos w32 r (omega arith) in
    let ea : cast_signed w32 a ≡ pos a = to_z_pos w32 a (omega arith) in
    let fits : FitsSigned w32 (pos r -ℤ pos a) = search (rules, ints) in
    rw (er, ea) (to_z-of_z w32 (pos r -ℤ pos a) fits)

pub returns-clause-drawn : goal.returns-clause-drawn
unfolding component_at
returns-clause-drawn c =
    let a = c.args.amplitude in
    less (c.draw.result % (2 * a + 1)) a (omega arith) (omega arith)
    ∙ ap (λ (d : ℕ). pos (d % (2 * a + 1)) -ℤ pos a) c.draw.ensures.drawn
