-- Sections whose counts, refused bodies, readings and alerts fit can be told.
use Rattle.std.proofs.Common.{◌≡◌, ℕ, ◌+◌, ◌^◌, ◌<◌, ◌≤◌, List, [], ◌∷◌, length, map, sum_by, not}
use Rattle.std.proofs.Common.{Bool, Option, Some, None, nat_eq, bytes_eq, arith, ◌∙◌}
use Rattle.std.proofs.lemmas.List.Elements.{All-from_recursion}
use Rattle.std.proofs.lemmas.List.Sums.{sum_by-cons}
use Rattle.std.proofs.lemmas.Slice.Zip.{AllZip-long}
use Rattle.std.specs.Cmp.Lexicographic.{pointwise}
use Rattle.std.specs.List.{AllByRecursion, AllZip}
use Rattle.plum_base.specs.declared.answers.Reading.{Reading}
use Rattle.plum_base.specs.declared.counts.Counts.{Counts}
use Rattle.plum_base.specs.declared.numbers.Tenths.{Tenths}
use Rattle.plum_base.specs.declared.packet.RefusedBody.{RefusedBody}
use Rattle.plum_base.specs.declared.rules.Alert.{Alert}
use Rattle.plum_base.specs.declared.sites.TargetSite.{TargetSite}
use Rattle.plum_base.specs.Name.{IsName}
use Rattle.plum_base.specs.Sites.{areas_of, targets_of, first_appearances}
use Rattle.plum_text.specs.declared.lines.OutLine.{OutLine}
use Rattle.plum_text.specs.Fields.{Fits, FitsValue}
use Rattle.plum_text.specs.Laws.{SectionsCanBeTold}
use Rattle.plum_text.specs.Lines.{FitsOut}
use Rattle.plum_text.specs.Texts.{Section, IsWhole, answer_lines, alert_lines, area_lines}
use Rattle.plum_text.specs.Texts.{areas_lines, section_lines, sections_lines, totals_of}
use Rattle.plum_text.specs.Texts.{refused_lines, end_lines, out_lines}
use Rattle.plum_base.proofs.Members.{All-both}
use Rattle.plum_replay.proofs.Lists.{All-passing}
use Rattle.plum_replay.proofs.Decodings.{CanBeRefused}

-- Each of the counts is at most that of the bodies.
pub record IsCounted (c : Counts) : Type 0 where
  pub kept : c.kept ≤ c.bodies
  pub repeats : c.repeats ≤ c.bodies
  pub refused : c.refused ≤ c.bodies

-- The reading of an area can be told: its front fits, it has an answer for each target of the area,
-- and each answer fits.
pub record CanBeRead (targets : List TargetSite) (area : List ℕ) (reading : Reading) : Type 0 where
  pub front : Fits 64 reading.front
  pub one_each : length reading.answers ≡ length (targets_of area targets)
  pub answers : AllByRecursion FitsValue reading.answers

-- The section can be told, where the number of its bodies fits.
pub record CanBeShown (targets : List TargetSite) (s : Section) : Type 0 where
  pub counts : IsCounted s.counts
  pub refused : AllByRecursion CanBeRefused s.refused
  pub readings : AllZip (CanBeRead targets) (areas_of targets) s.readings
  pub alerts : length s.alerts ≡ length s.readings

-- areas are named as those of the targets
named_areas : (names : List (List ℕ)) → AllByRecursion IsName names
    → AllByRecursion IsName (first_appearances names)
named_areas [] are = tt
named_areas (name ∷ names) are =
    let test : List ℕ → Bool = λ other. not (pointwise nat_eq name other) in
    (are.0, All-passing IsName test (first_appearances names) (named_areas names are.1))

-- refused bodies
refused_fit : (rs : List RefusedBody) → AllByRecursion CanBeRefused rs
    → AllByRecursion FitsOut (refused_lines rs)
refused_fit [] are = tt
refused_fit (r ∷ rs) are = (are.0, refused_fit rs are.1)

module _ (m : ℕ) (mark_fits : m < 2 ^ 32) where
  -- answers at mark m
  answers_fit : (ts : List TargetSite) (answers : List (Option Tenths))
      → AllByRecursion (λ t. IsName t.name) ts → AllByRecursion FitsValue answers
      → AllByRecursion FitsOut (answer_lines m ts answers)
  answers_fit [] answers named fit = tt
  answers_fit (t ∷ ts) [] named fit = tt
  answers_fit (t ∷ ts) (answer ∷ answers) named fit =
      ((mark_fits, named.0, fit.0), answers_fit ts answers named.1 fit.1)

  -- an alert or none
  alert_fits : (area : List ℕ) (alert : Option Alert) → IsName area
      → AllByRecursion FitsOut (alert_lines m area alert)
  alert_fits area None named = tt
  alert_fits area (Some alert) named = ((mark_fits, named), tt)

  module _ (targets : List TargetSite) (named : AllByRecursion (λ t. IsName t.name) targets) where
    -- one area
    area_fits : (area : List ℕ) (reading : Reading) (alert : Option Alert) → IsName area
        → CanBeRead targets area reading
        → AllByRecursion FitsOut (area_lines targets m area reading alert)
    area_fits area reading alert name read =
        let ts = targets_of area targets in
        let own = All-passing (λ t. IsName t.name) (λ t. bytes_eq t.area area) targets named in (
          (mark_fits, name, read.front),
          All-both FitsOut (answer_lines m ts reading.answers) (alert_lines m area alert)
              (answers_fit ts reading.answers own read.answers) (alert_fits area alert name),
        )

    -- all areas
    areas_fit : (areas : List (List ℕ)) (readings : List Reading) (alerts : List (Option Alert))
        → AllByRecursion IsName areas → AllZip (CanBeRead targets) areas readings
        → AllByRecursion FitsOut (areas_lines targets m areas readings alerts)
    areas_fit [] readings alerts names read = tt
    areas_fit (area ∷ areas) [] alerts names read = tt
    areas_fit (area ∷ areas) (reading ∷ readings) [] names read = tt
    areas_fit (area ∷ areas) (reading ∷ readings) (alert ∷ alerts) names read =
        All-both FitsOut (area_lines targets m area reading alert)
        (areas_lines targets m areas readings alerts)
        (area_fits area reading alert names.0 read.0)
        (areas_fit areas readings alerts names.1 read.1)

    -- one section
    section_fits : (s : Section) → AllByRecursion IsName (areas_of targets)
        → CanBeShown targets s → s.counts.bodies < 2 ^ 32
        → AllByRecursion FitsOut (section_lines targets m s)
    section_fits s names shown few =
        let counts = shown.counts in
        let kept = counts.kept in
        let repeats = counts.repeats in
        let refused = counts.refused in
        let areas = areas_of targets in
        let told : List OutLine = refused_lines s.refused in (
          (mark_fits, few, omega arith, omega arith, omega arith),
          All-both FitsOut told (areas_lines targets m areas s.readings s.alerts)
              (refused_fit s.refused shown.refused)
              (areas_fit areas s.readings s.alerts names shown.readings),
        )

-- the bodies of a section
abbrev pub bodies_of : Section → ℕ
bodies_of s = s.counts.bodies

module _ (targets : List TargetSite) (named : AllByRecursion (λ t. IsName t.name) targets)
    (names : AllByRecursion IsName (areas_of targets)) where
  -- sections from mark m on
  sections_fit : (m : ℕ) (ss : List Section) → m + length ss ≤ 2 ^ 32
      → sum_by bodies_of ss < 2 ^ 32 → AllByRecursion (CanBeShown targets) ss
      → AllByRecursion FitsOut (sections_lines targets m ss)
  sections_fit m [] few bodies shown = tt
  sections_fit m (s ∷ ss) few bodies shown =
      let sum = sum_by-cons bodies_of s ss in
      All-both FitsOut (section_lines targets m s) (sections_lines targets (m + 1) ss)
      (section_fits m (omega arith) targets named s names shown.0 (omega arith))
      (sections_fit (m + 1) ss (omega arith) (omega arith) shown.1)

-- sections are whole
reading_whole : (targets : List TargetSite) (areas : List (List ℕ)) (rs : List Reading)
    → AllZip (CanBeRead targets) areas rs
    → AllZip (λ area r. length r.answers ≡ length (targets_of area targets)) areas rs
reading_whole targets [] [] read = tt
reading_whole targets [] (r ∷ rs) read = absurd read
reading_whole targets (area ∷ areas) [] read = absurd read
reading_whole targets (area ∷ areas) (r ∷ rs) read =
    (read.0.one_each, reading_whole targets areas rs read.1)

sections_whole : (targets : List TargetSite) (ss : List Section)
    → AllByRecursion (CanBeShown targets) ss → AllByRecursion (IsWhole targets) ss
sections_whole targets [] shown = tt
sections_whole targets (s ∷ ss) shown =
    let own = shown.0 in
    let areas = areas_of targets in (
      record {
        alerts = own.alerts ∙ AllZip-long (CanBeRead targets) areas s.readings own.readings;
        answers = reading_whole targets areas s.readings own.readings;
      },
      sections_whole targets ss shown.1,
    )

-- the counts of sections
counts_less : (targets : List TargetSite) (ss : List Section)
    → AllByRecursion (CanBeShown targets) ss
    → (sum_by (λ s. s.counts.kept) ss ≤ sum_by bodies_of ss)
    × (sum_by (λ s. s.counts.repeats) ss ≤ sum_by bodies_of ss)
    × (sum_by (λ s. s.counts.refused) ss ≤ sum_by bodies_of ss)
counts_less targets [] shown = (omega arith, omega arith, omega arith)
counts_less targets (s ∷ ss) shown =
    let more = counts_less targets ss shown.1 in
    let own = shown.0.counts in
    let kept = own.kept in
    let repeats = own.repeats in
    let refused = own.refused in
    let bodies = sum_by-cons bodies_of s ss in (
      omega (arith, sum_by-cons (λ s. s.counts.kept) s ss),
      omega (arith, sum_by-cons (λ s. s.counts.repeats) s ss),
      omega (arith, sum_by-cons (λ s. s.counts.refused) s ss),
    )

-- Sections that can be shown, of names, and not too many, with a short tail, can be told.
pub sections_told : (targets : List TargetSite) (ss : List Section) (tail : ℕ)
    → AllByRecursion (λ t. IsName t.name) targets
    → AllByRecursion IsName (map (λ t. t.area) targets) → length ss < 2 ^ 32
    → sum_by bodies_of ss < 2 ^ 32 → tail < 2 ^ 32 → AllByRecursion (CanBeShown targets) ss
    → SectionsCanBeTold targets ss tail
sections_told targets ss tail named areas few bodies short shown =
    let names = named_areas (map (λ t. t.area) targets) areas in
    let less = counts_less targets ss shown in
    let ends : AllByRecursion FitsOut (end_lines tail (length ss) (totals_of ss)) = (
      short,
      (
        (few, bodies, omega (arith, less.0), omega (arith, less.1), omega (arith, less.2)),
        tt,
      ),
    ) in
    let lines =
    All-both FitsOut (sections_lines targets 1 ss)
    (end_lines tail (length ss) (totals_of ss))
    (sections_fit targets named names 1 ss (omega arith) bodies shown) ends in
    record {
      whole = All-from_recursion (IsWhole targets) ss (sections_whole targets ss shown);
      fits = All-from_recursion FitsOut (out_lines targets ss tail) lines;
    }
