-- What a window goes on standing for, and the level that it tells.
use Rattle.std.proofs.Common.{◌≡◌, ℕ, ◌+◌, ◌<◌, ◌≤◌, List, [], ◌∷◌, ◌++◌, length, get_or}
use Rattle.std.proofs.Common.{map, replicate, Option, Some, leb, ltb, leb-true, leb-false}
use Rattle.std.proofs.Common.{count_by, refl, subst, ◌∙◌, ap, arith, inl, inr}
use Rattle.std.proofs.lemmas.Bool.{cases_Bool}
use Rattle.std.proofs.lemmas.Bool.Decides.{nat_tests}
use Rattle.std.proofs.lemmas.List.{length-map}
use Rattle.plum_base.specs.Levels.{LevelsView, MOST_LEVELS, AreThresholds}
use Rattle.plum_level.specs.declared.tally.Tally.{Tally}
use Rattle.plum_level.specs.Level.{WINDOW, ENOUGH, last_minute, reaching, sample_level, IsLevel}
use Rattle.plum_level.specs.Level.{IsLevelOfRun}
use Rattle.plum_level.specs.Tallies.{from_level, renewed, IsSettled}
use Rattle.plum_level.specs.Window.{WindowView, IsWindow, StandsFor}
use Rattle.plum_level.proofs.Counting.{from_level-falls}
use Rattle.plum_level.proofs.Minutes.{length-last_minute, last_minute-push}
use Rattle.plum_level.proofs.Renewing.{AreCountsOf-none, AreCountsOf-renewed, leaving}
use Rattle.plum_level.proofs.Renewing.{count_by-zero}
use Rattle.plum_level.proofs.Samples.{sample_level-listed, sample_level-reaches, count_by-map}
use Rattle.plum_level.proofs.Samples.{count_by-none}

-- a window of no samples
pub IsWindow-none : (ts : List ℕ) (tally : Tally) → AreThresholds ts
    → tally.counts ≡ replicate MOST_LEVELS 0 → IsSettled tally
    → IsWindow (record { thresholds = ts; levels = [] }) tally
IsWindow-none ts tally table none settled = record {
  table = table;
  short = omega arith;
  settled = settled;
  counted = λ k le. ap (λ counts. from_level counts k) none ∙ AreCountsOf-none k le;
}

-- A window stays one.
pub IsWindow-renewed : (ts levels : List ℕ) (before after : Tally) (left : Option ℕ) (came : ℕ)
    → IsWindow (record { thresholds = ts; levels = levels }) before → came < MOST_LEVELS
    → left ≡ leaving (ltb (length levels) WINDOW) levels came
    → after.counts ≡ renewed before.counts left came → IsSettled after
    → IsWindow (record { thresholds = ts; levels = last_minute (levels ++ came ∷ []) }) after
IsWindow-renewed ts levels before after left came window listed leaves is settled = record {
  table = window.table;
  short = omega (arith, length-last_minute (levels ++ came ∷ []));
  settled = settled;
  counted = λ k le.
      let counts = is ∙ ap (λ l. renewed before.counts l came) leaves in
      let places = window.settled.tallied.places in
      ap (λ cs. from_level cs k) counts
      ∙ AreCountsOf-renewed before.counts levels came places listed window.short window.counted
      (ltb (length levels) WINDOW) refl k le;
}

-- It goes on standing for what it was given.
pub StandsFor-more : (before : WindowView) (table : LevelsView) (amplitudes : List ℕ)
    (amp level : ℕ) → StandsFor before table amplitudes → level ≡ sample_level before.thresholds amp
    → StandsFor (record before { levels = last_minute (before.levels ++ level ∷ []) }) table
    (amplitudes ++ amp ∷ [])
StandsFor-more before table amplitudes amp level stands is = record {
  same_table = stands.same_table;
  levels =
      let own : level ≡ sample_level table.thresholds amp =
      is ∙ ap (λ ts. sample_level ts amp) stands.same_table in
      let past = map (sample_level table.thresholds) (last_minute amplitudes) in
      ap (λ ls. last_minute (ls ++ level ∷ [])) stands.levels
      ∙ ap (λ l. last_minute (past ++ l ∷ [])) own
      ∙ last_minute-push (sample_level table.thresholds) amplitudes amp;
}

module _ (window : WindowView) (tally : Tally) (table : LevelsView) (amplitudes : List ℕ)
    (is : IsWindow window tally) (stands : StandsFor window table amplitudes) where
  abbrev ts : List ℕ
  ts = table.thresholds

  -- A window has as many levels as the last minute has samples.
  as_long : length window.levels ≡ length (last_minute amplitudes)
  as_long = ap length stands.levels ∙ length-map (last_minute amplitudes) (sample_level ts)

  are_thresholds : AreThresholds ts
  are_thresholds = subst AreThresholds stands.same_table is.table

  -- As many have a level or a higher one as reach its threshold.
  as_many : (k : ℕ) → k < length ts
      → from_level tally.counts k ≡ reaching (get_or ts k 0) amplitudes
  as_many k below =
      is.counted k (omega (arith, are_thresholds.few))
      ∙ ap (count_by (leb k)) stands.levels
      ∙ count_by-map (leb k) (leb (get_or ts k 0)) (sample_level ts)
      (λ a. sample_level-reaches ts are_thresholds.start a are_thresholds.rises k below)
      (last_minute amplitudes)

  -- None has a level past the table.
  none_past : (k : ℕ) → length ts ≤ k → k ≤ MOST_LEVELS → from_level tally.counts k ≡ 0
  none_past k past le =
      is.counted k le ∙ ap (count_by (leb k)) stands.levels
      ∙ count_by-none (leb k) (sample_level ts) (λ a.
      let listed = sample_level-listed ts are_thresholds.start a in grind (arith, nat_tests))
      (last_minute amplitudes)

  -- The top is one of the table.
  top_listed : tally.top < length ts
  top_listed = elim (cases_Bool (leb (length ts) tally.top)) [
    | inl past ↦
        let beyond = leb-true (length ts) tally.top past in
        let top = is.settled.tallied.listed in
        let none = none_past tally.top beyond (omega arith) in
        let some = are_thresholds.start.0 in
        absurd (omega (arith, none, some, is.settled.enough (omega (arith, some))))
    | inr below ↦ leb-false (length ts) tally.top below
  ]

  -- Enough have the top level or a higher one.
  top_reached : ENOUGH ≤ length window.levels → ENOUGH ≤ from_level tally.counts tally.top
  top_reached long = elim (cases_Bool (leb 1 tally.top)) [
    | inl some ↦ is.settled.enough (leb-true 1 tally.top some)
    | inr bottom ↦
        let zero : tally.top ≡ 0 = omega (arith, leb-false 1 tally.top bottom) in
        let all = is.counted 0 (omega arith) ∙ count_by-zero window.levels in
        omega (arith, all, ap (from_level tally.counts) zero)
  ]

  -- The top is the level of what it was given, where that is long enough.
  pub IsLevelOfRun-some : ENOUGH ≤ length window.levels
      → IsLevelOfRun ts amplitudes (Some tally.top)
  IsLevelOfRun-some long =
      let level : IsLevel ts amplitudes tally.top = record {
        listed = top_listed;
        reached = omega (arith, as_many tally.top top_listed, top_reached long);
        greatest = λ j above below.
            omega (
              arith,
              as_many j below,
              is.settled.few,
              from_level-falls tally.counts (tally.top + 1) j (omega arith),
            );
      } in
      (omega (arith, as_long, length-last_minute amplitudes), level)

  -- A window that is too short has none.
  pub IsLevelOfRun-none : length window.levels < ENOUGH → length amplitudes < ENOUGH
  IsLevelOfRun-none short = omega (arith, as_long, length-last_minute amplitudes)
