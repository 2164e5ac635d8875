-- The threshold table of a drill has no fault.
use Rattle.std.proofs.Common.{◌≡◌, ℕ, zero, suc, ◌+◌, ◌-◌, ◌*◌, ◌%◌, ◌^◌, ◌<◌, pos, get_or}
use Rattle.std.proofs.Common.{refl, ap, ◌∙◌, arith, rules, Result, Ok, Err}
use Rattle.std.proofs.lemmas.List.FromFn.{get_or-map-range_with_len}
use Rattle.std.proofs.Math.Nat.{mod-eq_of_lt}
use Rattle.std.proofs.Math.Pow.{pow-lt}
use Rattle.std.specs.Result.{IfErr, IsOk}
use Rattle.plum_base.specs.declared.levels.LevelFault.{LevelFault}
use Rattle.plum_base.specs.declared.levels.LevelFault.TheVariants as faults
use Rattle.plum_base.specs.Levels.{IsFactor, IsFirstLevelFault}
use Rattle.plum.specs.DrillSetup.{drill_thresholds}

-- without a fault there is a value
pub no_fault : {T E : Type 0} {P : E → Type 0} (r : Result T E) → IfErr r P
    → ((e : E) → ¬ P e) → IsOk r
no_fault (Ok x) h none = search rules
no_fault (Err e) h none = absurd (none e h)

-- an entry behind the first
entry : (k : ℕ) → k < 50 → get_or drill_thresholds (suc k) 0 ≡ 2 ^ (k + 6)
entry k few =
    let sum : k + 1 + 5 ≡ k + 6 = omega arith in
    get_or-map-range_with_len (λ i. 2 ^ (i + 5)) 1 50 k (k + 1) 0 few (omega arith)
    ∙ ap (λ (n : ℕ). 2 ^ n) sum

-- each entry is greater than the one before it
rises : (i : ℕ) → 0 < i → i < 51 → get_or drill_thresholds (i - 1) 0 < get_or drill_thresholds i 0
rises zero some few = omega arith
rises (suc zero) some few = let is = entry 0 (omega arith) in omega (arith, is)
rises (suc (suc k)) some few =
    let before : suc (suc k) - 1 ≡ suc k = omega arith in
    let below = entry k (omega arith) in
    let above = entry (suc k) (omega arith) in
    let less : 2 ^ (k + 6) < 2 ^ (suc k + 6) = pow-lt (omega arith) in
    rw before (omega (arith, below, above, less))

-- none is above what three components can give
within : (i : ℕ) → i < 51 → get_or drill_thresholds i 0 < 2 ^ 60
within zero few = omega arith
within (suc k) few =
    let is = entry k (omega arith) in
    let less : 2 ^ (k + 6) < 2 ^ 60 = pow-lt {i = k + 6} {j = 60} (omega arith) in
    omega (arith, is, less)

-- A first fault of the table there is not.
pub no_level_fault : (fault : LevelFault)
    → ¬ IsFirstLevelFault (record {
      thresholds = drill_thresholds;
      base = record { 0 = pos 0 };
    }) fault
no_level_fault faults.Empty h = cc
no_level_fault faults.First h = h.1 refl
no_level_fault (faults.Order i) h =
    let more = rises i h.2 h.3 in omega (arith, more, h.4)
no_level_fault (faults.Above i) h =
    let less = within i h.3 in omega (arith, less, h.4)
no_level_fault faults.Base h =
    let none : IsFactor (record { 0 = pos 0 }) = search rules in h.3 none

-- the power of two that a shift gives
pub power : (i : ℕ) → i < 50 → 1 * 2 ^ (i + 6) % 2 ^ 64 ≡ 2 ^ (i + 1 + 5)
power i few =
    let less : 2 ^ (i + 6) < 2 ^ 64 = pow-lt {i = i + 6} {j = 64} (omega arith) in
    let small : 1 * 2 ^ (i + 6) < 2 ^ 64 = omega (arith, less) in
    let sum : i + 6 ≡ i + 1 + 5 = omega arith in
    let one : 1 * 2 ^ (i + 6) ≡ 2 ^ (i + 6) = omega arith in
    mod-eq_of_lt small ∙ one ∙ ap (λ (n : ℕ). 2 ^ n) sum
