-- The level of a sample, and how many samples have a level or a higher one.
use Rattle.std.proofs.Common.{◌≡◌, ℕ, ◌+◌, ◌-◌, ◌<◌, ◌≤◌, Bool, false, List, [], ◌∷◌, length}
use Rattle.std.proofs.Common.{get_or, map, leb, leb-true, leb-false, count_by, cond, refl}
use Rattle.std.proofs.Common.{sym, ◌∙◌, ap, arith, inl, inr}
use Rattle.std.proofs.lemmas.Bool.{cases_Bool}
use Rattle.std.proofs.lemmas.Bool.Decides.{nat_tests}
use Rattle.std.proofs.lemmas.List.{get_or_default}
use Rattle.std.proofs.lemmas.List.Sorted.{IsNonDecreasingBy-from_all_adjacent}
use Rattle.std.proofs.lemmas.List.Sums.{sum_by-cons, prefix_len_passes}
use Rattle.std.proofs.lemmas.List.Sums.{prefix_len_stops, prefix_len-le-length}
use Rattle.std.specs.List.{prefix_len}
use Rattle.std.specs.List.Sorted.{IsNonDecreasing}
use Rattle.plum_base.specs.Levels.{StartsAtZero, RisesUpTo}
use Rattle.plum_level.specs.Level.{sample_level}

-- Thresholds that rise do not fall.
pub IsNonDecreasing-from_rises : (ts : List ℕ) → RisesUpTo ts (length ts) → IsNonDecreasing ts
IsNonDecreasing-from_rises ts rises =
    IsNonDecreasingBy-from_all_adjacent (λ t. t) ts (λ k d below.
    let before : k + 1 - 1 ≡ k = omega arith in
    let up : get_or ts (k + 1 - 1) 0 < get_or ts (k + 1) 0 =
    rises (k + 1) (omega arith) below in
    let here = get_or_default ts k d 0 (omega arith) in
    let next = get_or_default ts (k + 1) d 0 below in
    omega (arith, ap (λ i. get_or ts i 0) before, here, next))

-- how many thresholds, from the first on, a sample reaches
abbrev pub reached_by : List ℕ → ℕ → ℕ
reached_by ts a = prefix_len (λ t. leb t a) ts

-- In thresholds that do not fall, a sample reaches these, and no other.
pub reached_by-up_to : (ts : List ℕ) → IsNonDecreasing ts → (a k : ℕ) → k < length ts
    → leb (k + 1) (reached_by ts a) ≡ leb (get_or ts k 0) a
reached_by-up_to ts order a k below = elim (cases_Bool (leb (k + 1) (reached_by ts a))) [
  | inl within ↦
      let inside = leb-true (k + 1) (reached_by ts a) within in
      within ∙ sym (prefix_len_passes (λ t. leb t a) ts k 0 (omega arith))
  | inr past ↦
      let beyond = leb-false (k + 1) (reached_by ts a) past in
      let short = leb-false _ a (prefix_len_stops (λ t. leb t a) ts 0 (omega arith)) in
      let above = order (reached_by ts a) k 0 (omega arith) below in
      grind (arith, nat_tests)
]

module _ (ts : List ℕ) (starts : StartsAtZero ts) (a : ℕ) where
  -- Each sample reaches the first threshold.
  pub reached_by-some : 1 ≤ reached_by ts a
  reached_by-some = elim (cases_Bool (leb 1 (reached_by ts a))) [
    | inl some ↦ leb-true _ _ some
    | inr few ↦
        let none : reached_by ts a ≡ 0 = omega (arith, leb-false 1 (reached_by ts a) few) in
        let below : reached_by ts a < length ts = omega (arith, starts.0) in
        let short = leb-false _ a (prefix_len_stops (λ t. leb t a) ts 0 below) in
        absurd (omega (arith, short, ap (λ i. get_or ts i 0) none, starts.1))
  ]

  -- Its level is one of the table.
  pub sample_level-listed : sample_level ts a < length ts
  sample_level-listed = omega (arith, reached_by-some, prefix_len-le-length (λ t. leb t a) ts)

  -- It reaches the thresholds up to its level, and no other.
  pub sample_level-reaches : RisesUpTo ts (length ts) → (i : ℕ) → i < length ts
      → leb i (sample_level ts a) ≡ leb (get_or ts i 0) a
  sample_level-reaches rises i below =
      let some = reached_by-some in
      let order = IsNonDecreasing-from_rises ts rises in
      let shifted : leb i (sample_level ts a) ≡ leb (i + 1) (reached_by ts a) =
      grind (arith, nat_tests) in
      shifted ∙ reached_by-up_to ts order a i below

-- A count is one of what was mapped.
pub count_by-map : (p q : ℕ → Bool) (f : ℕ → ℕ) → ((x : ℕ) → p (f x) ≡ q x) → (xs : List ℕ)
    → count_by p (map f xs) ≡ count_by q xs
count_by-map p q f same [] = refl
count_by-map p q f same (x ∷ xs) =
    let one = ap (λ b. cond {A = ℕ} b 1 0) (same x) in
    omega (
      arith,
      sum_by-cons (λ y. cond (p y) 1 0) (f x) (map f xs),
      sum_by-cons (λ y. cond (q y) 1 0) x xs,
      one,
      count_by-map p q f same xs,
    )

-- None counts where none passes.
pub count_by-none : (p : ℕ → Bool) (f : ℕ → ℕ) → ((x : ℕ) → p (f x) ≡ false) → (xs : List ℕ)
    → count_by p (map f xs) ≡ 0
count_by-none p f none [] = refl
count_by-none p f none (x ∷ xs) =
    let one = ap (λ b. cond {A = ℕ} b 1 0) (none x) in
    let here = sum_by-cons (λ y. cond (p y) 1 0) (f x) (map f xs) in
    omega (arith, here, one, count_by-none p f none xs)
