-- Thresholds filled up to the length of the longest table.
use Rattle.std.proofs.Common.{◌≡◌, ℕ, ◌+◌, ◌-◌, ◌^◌, ◌<◌, List, length, ◌++◌, get_or, take}
use Rattle.std.proofs.Common.{drop, replicate, leb, leb-true, leb-false, min, refl, sym, ◌∙◌, ap}
use Rattle.std.proofs.Common.{subst, arith, inl, inr, length-append}
use Rattle.std.proofs.lemmas.Bool.{cases_Bool}
use Rattle.std.proofs.lemmas.List.{drop-replicate, get_or_append_left, get_or-append_right}
use Rattle.std.proofs.lemmas.List.{get_or-replicate, get_or-take, length-replicate, length-take}
use Rattle.std.proofs.lemmas.List.Sorted.{IsNonDecreasingBy-from_default}
use Rattle.std.proofs.lemmas.List.Sums.{prefix_len_is, prefix_len_passes, prefix_len_stops}
use Rattle.std.specs.List.Sorted.{IsNonDecreasing}
use Rattle.plum_base.specs.Levels.{LevelsView, IsLevelTable}
use Rattle.plum_level.specs.Level.{sample_level}
use Rattle.plum_base.specs.Levels.{MOST_LEVELS}
use Rattle.plum_level.specs.Thresholds.{IsFilled}
use Rattle.plum_level.proofs.Samples.{IsNonDecreasing-from_rises, reached_by}

-- what the places behind the last threshold hold
abbrev pub FILL : ℕ
FILL = 2 ^ 64 - 1

module _ (table : LevelsView) (is : IsLevelTable table) where
  abbrev ts : List ℕ
  ts = table.thresholds

  abbrev fill : List ℕ
  fill = replicate (MOST_LEVELS - length ts) FILL

  -- Filled thresholds do not fall, since no threshold is above the fill.
  filled_order : IsNonDecreasing (ts ++ fill)
  filled_order = IsNonDecreasingBy-from_default (λ t. t) (ts ++ fill) 0 (λ i j le below.
      let long = length-append ts fill in
      let room = length-replicate (MOST_LEVELS - length ts) FILL in
      elim (cases_Bool (leb (length ts) j)) [
        | inr listed ↦
            let at_j = leb-false (length ts) j listed in
            let order = IsNonDecreasing-from_rises ts is.thresholds.rises i j 0 le at_j in
            omega (
              arith,
              order,
              get_or_append_left ts fill 0 i (omega arith),
              get_or_append_left ts fill 0 j at_j,
            )
        | inl behind ↦
            let at_j = leb-true (length ts) j behind in
            let last = get_or-append_right ts fill (length ts) j 0 refl at_j
            ∙ get_or-replicate (MOST_LEVELS - length ts) (j - length ts) FILL 0
            (omega (arith, long, room)) in
            elim (cases_Bool (leb (length ts) i)) [
              | inr listed ↦
                  let at_i = leb-false (length ts) i listed in
                  omega (arith, last, get_or_append_left ts fill 0 i at_i, is.within i at_i)
              | inl beside ↦
                  let at_i = leb-true (length ts) i beside in
                  let first = get_or-append_right ts fill (length ts) i 0 refl at_i
                  ∙ get_or-replicate (MOST_LEVELS - length ts) (i - length ts) FILL 0
                  (omega (arith, long, room)) in
                  omega (arith, first, last)
            ]
      ])

  pub IsFilled-table :
      IsFilled (ts ++ drop (length ts) (replicate MOST_LEVELS FILL)) (length ts - 1)
  IsFilled-table =
      subst (λ xs. IsFilled (ts ++ xs) (length ts - 1))
      (sym (drop-replicate (length ts) MOST_LEVELS FILL))
      (record {
        places = length-append ts fill ∙ omega (
          arith,
          is.thresholds.few,
          length-replicate (MOST_LEVELS - length ts) FILL,
        );
        listed = omega (arith, is.thresholds.few, is.thresholds.start.0);
        order = filled_order;
      })

-- In the first thresholds a sample has the level that it has in all, and the last of them at most.
pub sample_level-take : (ts : List ℕ) (a last : ℕ) → last < length ts
    → sample_level (take (last + 1) ts) a ≡ min (sample_level ts a) last
sample_level-take ts a last within =
    let n = last + 1 in
    let r = reached_by ts a in
    let long : length (take n ts) ≡ n = omega (arith, length-take n ts) in
    let reached : reached_by (take n ts) a ≡ min n r =
    prefix_len_is (λ t. leb t a) (take n ts) (min n r) 0 (omega (arith, long))
    (λ k below. ap (λ t. leb t a) (get_or-take n ts k 0 (omega arith))
    ∙ prefix_len_passes (λ t. leb t a) ts k 0 (omega arith))
    (λ below.
    let here : min n r ≡ r = omega (arith, long) in
    let short = prefix_len_stops (λ t. leb t a) ts 0 (omega (arith, long)) in
    ap (λ t. leb t a) (get_or-take n ts (min n r) 0 (omega (arith, long)))
    ∙ ap (λ k. leb (get_or ts k 0) a) here ∙ short) in
    ap (λ k. k - 1) reached ∙ omega arith
