-- What one call more adds to the calls that failed by a schedule.
use Rattle.std.proofs.Common.{◌≡◌, ℕ, ◌+◌, ◌-◌, ◌<◌, ◌≤◌, ◌^◌, true, false, cond}
use Rattle.std.proofs.Common.{List, [], ◌∷◌, ◌++◌, count_by, ap, sym, ◌∙◌, arith, map-id, add-zero}
use Rattle.std.proofs.Common.{inl, inr}
use Rattle.std.specs.List.{range_with_len}
use Rattle.std.proofs.Math.Nat.{eq-or-lt_of_le}
use Rattle.std.proofs.lemmas.List.FromFn.{map-range_with_len_more, length-range_with_len}
use Rattle.std.proofs.lemmas.List.Sums.{count_by-le-length, sum_by_push}
use Rattle.plum_base.specs.Counting.{one_more}
use Rattle.plum_host.specs.Faults.{HasRisen}
use Rattle.plum_host.specs.Schedule.{is_listed}

-- one number more
numbers-push : (n : ℕ) → range_with_len 1 (n + 1) ≡ range_with_len 1 n ++ (n + 1) ∷ []
numbers-push n =
    let more = map-range_with_len_more (λ (k : ℕ). k) 1 n (n + 1) (omega arith) in
    sym (map-id (range_with_len 1 (n + 1))) ∙ more
    ∙ ap (λ l. l ++ (n + 1) ∷ []) (map-id (range_with_len 1 n))

-- how many of the first so many calls are listed
abbrev failed_within : List ℕ → ℕ → ℕ
failed_within numbers n = count_by (is_listed numbers) (range_with_len 1 n)

failed-push : (numbers : List ℕ) (n : ℕ)
    → failed_within numbers (n + 1)
    ≡ failed_within numbers n + cond (is_listed numbers (n + 1)) 1 0
failed-push numbers n =
    ap (count_by (is_listed numbers)) (numbers-push n)
    ∙ sum_by_push (λ k. cond (is_listed numbers k) 1 0) (range_with_len 1 n) (n + 1)

failed-le : (numbers : List ℕ) (n : ℕ) → failed_within numbers n ≤ n
failed-le numbers n =
    omega (
      arith,
      count_by-le-length (is_listed numbers) (range_with_len 1 n),
      length-range_with_len 1 n,
    )

-- the next call, where it is listed
pub failed-one_more : (numbers : List ℕ) (made call : ℕ) → call ≡ one_more made
    → is_listed numbers call ≡ true → call < 2 ^ 32
    → HasRisen (failed_within numbers made) (failed_within numbers call)
failed-one_more numbers made call counted listed low =
    let next : call ≡ made + 1 = omega arith in
    let listed_next : is_listed numbers (made + 1) ≡ true =
    sym (ap (is_listed numbers) next) ∙ listed in
    let more : failed_within numbers call ≡ failed_within numbers made + 1 =
    ap (failed_within numbers) next ∙ failed-push numbers made
    ∙ ap (λ b. failed_within numbers made + cond b 1 0) listed_next in
    let few = failed-le numbers made in
    omega arith

-- the next call, where it is not
pub failed-same : (numbers : List ℕ) (made call : ℕ) → call ≡ one_more made → made < 2 ^ 64
    → is_listed numbers call ≡ false → failed_within numbers call ≡ failed_within numbers made
failed-same numbers made call counted bound unlisted =
    let within : made ≤ 2 ^ 64 - 1 = omega arith in
    elim (eq-or-lt_of_le within) [
      | inl last ↦ let still : call ≡ made = omega arith in ap (failed_within numbers) still
      | inr low ↦
          let next : call ≡ made + 1 = omega arith in
          let unlisted_next : is_listed numbers (made + 1) ≡ false =
          sym (ap (is_listed numbers) next) ∙ unlisted in
          ap (failed_within numbers) next ∙ failed-push numbers made
          ∙ ap (λ b. failed_within numbers made + cond b 1 0) unlisted_next ∙ add-zero _
    ]
