-- Lists in which each entry is greater than the one before it.
use Rattle.std.proofs.Common.{◌≡◌, ℕ, zero, suc, ◌+◌, ◌-◌, ◌<◌, ◌≤◌, List, [], ◌∷◌, length, Some}
use Rattle.std.proofs.Common.{None, true, false, refl, ap, ◌∙◌, arith}
use Rattle.std.proofs.lemmas.Bool.Decides.{nat_tests}
use native.Mathlib.Numerals.{unary_clauses}
use Rattle.std.specs.Prelude.{slice_index, nat_le, zip, Option}
use Rattle.std.specs.List.{position_from}
use Rattle.plum_base.specs.Levels.{RisesUpTo, first_not_rising}

-- the position of the first that is not greater than the one before it, behind t, where n is that
-- of the first
abbrev not_rising_from : ℕ → ℕ → List ℕ → Option ℕ
not_rising_from t n ts = position_from (λ (p : ℕ × ℕ). nat_le p.1 p.0) n (zip (t ∷ ts) ts)

not_rising_from-none : (t n : ℕ) (ts : List ℕ)
    → ((j : ℕ) → j < length ts → slice_index (t ∷ ts) j < slice_index ts j)
    → not_rising_from t n ts ≡ None
not_rising_from-none t n [] rises = refl
not_rising_from-none t n (u ∷ us) rises =
    let here : nat_le u t ≡ false = grind (arith, nat_tests, rises 0 (omega arith)) in
    rw here (not_rising_from-none u (n + 1) us (λ j within. rises (suc j) (omega arith)))

not_rising_from-some : (t n : ℕ) (ts : List ℕ) (i : ℕ)
    → ((j : ℕ) → j < i → slice_index (t ∷ ts) j < slice_index ts j)
    → i < length ts → slice_index ts i ≤ slice_index (t ∷ ts) i
    → not_rising_from t n ts ≡ Some (n + i)
not_rising_from-some t n [] i rises within falls = absurd (omega arith)
not_rising_from-some t n (u ∷ us) zero rises within falls =
    let here : nat_le u t ≡ true = grind (arith, nat_tests) in
    rw here (ap Some (omega arith))
not_rising_from-some t n (u ∷ us) (suc i) rises within falls =
    let here : nat_le u t ≡ false = grind (arith, nat_tests, rises 0 (omega arith)) in
    rw here
    (not_rising_from-some u (n + 1) us i (λ j under. rises (suc j) (omega arith)) (omega arith)
    falls
    ∙ ap Some (omega arith))

-- No entry breaks the order.
pub first_not_rising-none : (ts : List ℕ) → RisesUpTo ts (length ts) → first_not_rising ts ≡ None
first_not_rising-none [] rises = refl
first_not_rising-none (t ∷ ts) rises =
    not_rising_from-none t 1 ts
    (λ j within. simp unary_clauses at (rises (suc j) (omega arith) (omega arith)))

-- This entry is the first that does.
pub first_not_rising-some : (ts : List ℕ) (i : ℕ) → 0 < i → i < length ts → RisesUpTo ts i
    → slice_index ts i ≤ slice_index ts (i - 1) → first_not_rising ts ≡ Some i
first_not_rising-some [] i some within rises falls = absurd (omega arith)
first_not_rising-some (t ∷ ts) zero some within rises falls = absurd (omega arith)
first_not_rising-some (t ∷ ts) (suc i) some within rises falls =
    not_rising_from-some t 1 ts i
    (λ j under. simp unary_clauses at (rises (suc j) (omega arith) (omega arith)))
    (omega arith) (simp unary_clauses at falls)
    ∙ ap Some (omega arith)
