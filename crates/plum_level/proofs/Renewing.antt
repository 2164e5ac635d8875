-- The counts of the levels, while samples come and leave.
use Rattle.std.proofs.Common.{◌≡◌, ℕ, ◌+◌, ◌-◌, ◌*◌, ◌<◌, ◌≤◌, Bool, true, false, List, [], ◌∷◌}
use Rattle.std.proofs.Common.{◌++◌, length, get_or, drop, replicate, sum, Option, None, IfSome}
use Rattle.std.proofs.Common.{slice_get, leb, ltb, leb-false, ltb-true, ltb-false, count_by, cond}
use Rattle.std.proofs.Common.{refl, ◌∙◌, ap, arith, inl, inr, length-append}
use Rattle.std.specs.Prelude.{if◌then◌else◌}
use Rattle.std.proofs.lemmas.Bool.{cases_Bool}
use Rattle.std.proofs.lemmas.Bool.Decides.{nat_tests}
use Rattle.std.proofs.lemmas.List.{drop_all, drop-replicate, length-set}
use Rattle.std.proofs.lemmas.List.Folds.{sum_by-replicate}
use Rattle.std.proofs.lemmas.List.Sums.{sum_by-cons, sum_by_push, sum_by-le-sum_by}
use Rattle.std.proofs.lemmas.List.Sums.{count_by-le-length}
use Rattle.plum_level.specs.Level.{WINDOW, last_minute}
use Rattle.plum_base.specs.Levels.{MOST_LEVELS}
use Rattle.plum_level.specs.Tallies.{from_level, one_sample_less, renewed, AreCountsOf}
use Rattle.plum_level.proofs.Counting.{from_level-step, from_level-one_sample_more}
use Rattle.plum_level.proofs.Counting.{from_level-one_sample_less}
use Rattle.plum_level.proofs.Minutes.{last_minute_short}

-- Nothing is counted at first.
pub AreCountsOf-none : AreCountsOf (replicate MOST_LEVELS 0) []
AreCountsOf-none k le =
    let none : (MOST_LEVELS - k) * 0 ≡ 0 = omega arith in
    ap sum (drop-replicate k MOST_LEVELS 0) ∙ sum_by-replicate (λ n. n) (MOST_LEVELS - k) 0 ∙ none

-- No more have a higher level.
count_by-falls : (j k : ℕ) (xs : List ℕ) → j ≤ k → count_by (leb k) xs ≤ count_by (leb j) xs
count_by-falls j k xs le = sum_by-le-sum_by _ _ xs (λ x. grind (arith, nat_tests))

-- All have the lowest level or a higher one.
pub count_by-zero : (xs : List ℕ) → count_by (leb 0) xs ≡ length xs
count_by-zero [] = refl
count_by-zero (x ∷ xs) =
    let one : cond {A = ℕ} (leb 0 x) 1 0 ≡ 1 = grind (arith, nat_tests) in
    omega (arith, sum_by-cons (λ y. cond (leb 0 y) 1 0) x xs, one, count_by-zero xs)

-- No more are counted than there are.
pub sum-few : (counts levels : List ℕ) → AreCountsOf counts levels → sum counts ≤ length levels
sum-few counts levels counted =
    omega (arith, counted 0 (omega arith), count_by-le-length (leb 0) levels)

module _ (counts : List ℕ) (places : length counts ≡ MOST_LEVELS) (x : ℕ) (rest : List ℕ)
    (counted : AreCountsOf counts (x ∷ rest)) where
  -- the first of the levels is one of the table
  first_listed : x < MOST_LEVELS
  first_listed = elim (cases_Bool (leb MOST_LEVELS x)) [
    | inl past ↦
        let none : from_level counts MOST_LEVELS ≡ 0 =
        ap sum (drop_all MOST_LEVELS counts (omega arith)) in
        let one = ap (λ b. cond {A = ℕ} b 1 0) past in
        absurd (omega (
          arith,
          none,
          one,
          counted MOST_LEVELS (omega arith),
          sum_by-cons (λ l. cond (leb MOST_LEVELS l) 1 0) x rest,
        ))
    | inr below ↦ leb-false MOST_LEVELS x below
  ]

  -- and it is counted
  first_counted : 0 < get_or counts x 0
  first_counted =
      let here : cond {A = ℕ} (leb x x) 1 0 ≡ 1 = grind (arith, nat_tests) in
      let above : cond {A = ℕ} (leb (x + 1) x) 1 0 ≡ 0 = grind (arith, nat_tests) in
      let listed = first_listed in
      omega (
        arith,
        here,
        above,
        from_level-step counts x (omega arith),
        counted x (omega arith),
        counted (x + 1) (omega arith),
        sum_by-cons (λ l. cond (leb x l) 1 0) x rest,
        sum_by-cons (λ l. cond (leb (x + 1) l) 1 0) x rest,
        count_by-falls x (x + 1) rest (omega arith),
      )

-- what leaves a ring when a level comes, by whether there is room
abbrev pub leaving : Bool → List ℕ → ℕ → Option ℕ
leaving room levels came = if room then None else slice_get (levels ++ came ∷ []) 0

-- What leaves is counted.
pub leaving-counted : (counts levels : List ℕ) (came : ℕ) → length counts ≡ MOST_LEVELS
    → AreCountsOf counts levels → (room : Bool) → ltb (length levels) WINDOW ≡ room
    → IfSome (leaving room levels came) (λ l. (l < MOST_LEVELS) × (0 < get_or counts l 0))
leaving-counted counts levels came places counted true is = tt
leaving-counted counts [] came places counted false is =
    absurd (omega (arith, ltb-false 0 WINDOW is))
leaving-counted counts (x ∷ rest) came places counted false is =
    (first_listed counts places x rest counted, first_counted counts places x rest counted)

-- The counts go with the levels.
pub AreCountsOf-renewed : (counts levels : List ℕ) (came : ℕ) → length counts ≡ MOST_LEVELS
    → came < MOST_LEVELS → length levels ≤ WINDOW → AreCountsOf counts levels
    → (room : Bool) → ltb (length levels) WINDOW ≡ room
    → let after = renewed counts (leaving room levels came) came in
    AreCountsOf after (last_minute (levels ++ came ∷ []))
AreCountsOf-renewed counts levels came places listed short counted true is k le =
    let below = ltb-true (length levels) WINDOW is in
    let long = length-append levels (came ∷ []) in
    let all = last_minute_short (levels ++ came ∷ []) (omega (arith, long)) in
    omega (
      arith,
      from_level-one_sample_more counts k came (omega arith),
      counted k le,
      sum_by_push (λ l. cond (leb k l) 1 0) levels came,
      ap (count_by (leb k)) all,
    )
AreCountsOf-renewed counts [] came places listed short counted false is k le =
    absurd (omega (arith, ltb-false 0 WINDOW is))
AreCountsOf-renewed counts (x ∷ rest) came places listed short counted false is k le =
    let full = ltb-false (length (x ∷ rest)) WINDOW is in
    let one : length (x ∷ rest ++ came ∷ []) - WINDOW ≡ 1 =
    omega (arith, length-append rest (came ∷ [])) in
    let all = ap (λ n. drop n (x ∷ rest ++ came ∷ [])) one in
    let less = one_sample_less counts x in
    let long = length-set counts x (get_or counts x 0 - 1) in
    let first = first_listed counts places x rest counted in
    omega (
      arith,
      from_level-one_sample_more less k came (omega (arith, long)),
      from_level-one_sample_less counts k x (omega arith)
          (first_counted counts places x rest counted),
      counted k le,
      sum_by-cons (λ l. cond (leb k l) 1 0) x rest,
      sum_by_push (λ l. cond (leb k l) 1 0) rest came,
      ap (count_by (leb k)) all,
    )
