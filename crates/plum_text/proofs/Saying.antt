-- What holds of the lines of a text, line by line.
use Rattle.std.proofs.Common.{◌≡◌, ℕ, ◌+◌, ◌<◌, ◌≤◌, zero, suc, List, [], ◌∷◌, ◌++◌, length, Option}
use Rattle.std.proofs.Common.{Some, None, All, refl, map, sym, ap, ◌∙◌, subst, arith}
use Rattle.std.proofs.lemmas.List.Elements.{All-from_recursion}
use Rattle.std.proofs.lemmas.List.Sums.{sum_by-cons}
use Rattle.std.proofs.lemmas.Option.{same_Some}
use Rattle.std.specs.Prelude.{slice_get}
use Rattle.std.specs.List.{AllByRecursion}
use Rattle.plum_base.specs.Counts.{AddUp}
use Rattle.plum_base.specs.declared.answers.Reading.{Reading}
use Rattle.plum_base.specs.declared.counts.Counts.{Counts}
use Rattle.plum_base.specs.declared.entry.Entry.{Entry}
use Rattle.plum_base.specs.declared.note.Note.{Note}
use Rattle.plum_base.specs.declared.numbers.Tenths.{Tenths}
use Rattle.plum_base.specs.declared.packet.PacketFault.{PacketFault}
use Rattle.plum_base.specs.declared.packet.RefusedBody.{RefusedBody}
use Rattle.plum_base.specs.declared.rules.Alert.{Alert}
use Rattle.plum_base.specs.declared.sites.StationSite.{StationSite}
use Rattle.plum_base.specs.declared.sites.TargetSite.{TargetSite}
use Rattle.plum_base.specs.Sites.{areas_of, targets_of}
use Rattle.plum_text.specs.declared.lines.JournalLine.{JournalLine}
use Rattle.plum_text.specs.declared.lines.OutLine.{OutLine}
use Rattle.plum_text.specs.declared.lines.OutLine.TheVariants.{Mark, Refused, Tail}
use Rattle.plum_text.specs.declared.lines.OutLine.TheVariants.{Reading as ReadingLine}
use Rattle.plum_text.specs.declared.lines.OutLine.TheVariants.{Alert as AlertLine}
use Rattle.plum_text.specs.Texts.{Section, answer_line, answer_lines, alert_lines}
use Rattle.plum_text.specs.Texts.{area_lines, areas_lines, refused_lines, section_lines}
use Rattle.plum_text.specs.Texts.{sections_lines, out_lines}
use Rattle.plum_base.specs.Note.{note_of}
use Rattle.plum_text.specs.Texts.{totals_of, totals_line, notes_from, lines_from}
use Rattle.plum_text.specs.Texts.{journal_lines}

-- what holds of both lists holds of the two joined
joined : (P : OutLine → Type 0) (xs ys : List OutLine) → AllByRecursion P xs → AllByRecursion P ys
    → AllByRecursion P (xs ++ ys)
joined P [] ys px py = py
joined P (x ∷ xs) ys px py = (px.0, joined P xs ys px.1 py)

-- What holds of each kind of line, where the marks and the counts are so, holds of all lines of an
-- output.
module _ (P : OutLine → Type 0) (IsMark : ℕ → Type 0) (AreCounts : Counts → Type 0)
    (mark : (m : ℕ) (c : Counts) → IsMark m → AreCounts c
    → P (Mark m c.bodies c.kept c.repeats c.refused))
    (refused : (n : ℕ) (fault : PacketFault) → P (Refused n fault))
    (reading : (m : ℕ) (area : List ℕ) (front : ℕ) → IsMark m → P (ReadingLine m area front))
    (answer : (m : ℕ) (target : TargetSite) (value : Option Tenths) → IsMark m
    → P (answer_line m target value))
    (alert : (m : ℕ) (area : List ℕ) (alert : Alert) → IsMark m → P (AlertLine m area alert))
    (targets : List TargetSite) where
  abbrev Holds : List OutLine → Type 0
  Holds lines = AllByRecursion P lines

  of_answers : (m : ℕ) → IsMark m → (ts : List TargetSite) (values : List (Option Tenths))
      → Holds (answer_lines m ts values)
  of_answers m at [] values = tt
  of_answers m at (t ∷ ts) [] = tt
  of_answers m at (t ∷ ts) (v ∷ values) = (answer m t v at, of_answers m at ts values)

  of_alert : (m : ℕ) (area : List ℕ) → IsMark m → (a : Option Alert) → Holds (alert_lines m area a)
  of_alert m area at None = tt
  of_alert m area at (Some a) = (alert m area a at, tt)

  of_areas : (m : ℕ) → IsMark m → (areas : List (List ℕ)) (readings : List Reading)
      (alerts : List (Option Alert)) → Holds (areas_lines targets m areas readings alerts)
  of_areas m at [] readings alerts = tt
  of_areas m at (area ∷ areas) [] alerts = tt
  of_areas m at (area ∷ areas) (r ∷ readings) [] = tt
  of_areas m at (area ∷ areas) (r ∷ readings) (a ∷ alerts) =
      joined P (area_lines targets m area r a) (areas_lines targets m areas readings alerts) (
        reading m area r.front at,
        joined P (answer_lines m (targets_of area targets) r.answers) (alert_lines m area a)
            (of_answers m at (targets_of area targets) r.answers) (of_alert m area at a),
      )
      (of_areas m at areas readings alerts)

  of_refused : (bodies : List RefusedBody) → Holds (refused_lines bodies)
  of_refused [] = tt
  of_refused (r ∷ bodies) = (refused r.number r.fault, of_refused bodies)

  of_sections : (m : ℕ) (ss : List Section) → ((k : ℕ) → m ≤ k → k < m + length ss → IsMark k)
      → AllByRecursion (λ s. AreCounts s.counts) ss → Holds (sections_lines targets m ss)
  of_sections m [] marks counts = tt
  of_sections m (s ∷ ss) marks counts =
      let at : IsMark m = marks m (omega arith) (omega arith) in
      joined P (section_lines targets m s) (sections_lines targets (m + 1) ss) (
        mark m s.counts at counts.0,
        joined P (refused_lines s.refused)
            (areas_lines targets m (areas_of targets) s.readings s.alerts)
            (of_refused s.refused) (of_areas m at (areas_of targets) s.readings s.alerts),
      )
      (of_sections (m + 1) ss (λ k from to. marks k (omega arith) (omega arith)) counts.1)

  pub all_lines : (ss : List Section) (tail : ℕ)
      → ((k : ℕ) → 1 ≤ k → k < 1 + length ss → IsMark k)
      → AllByRecursion (λ s. AreCounts s.counts) ss
      → P (Tail tail) → P (totals_line (length ss) (totals_of ss))
      → All P (out_lines targets ss tail)
  all_lines ss tail marks counts of_tail of_totals =
      All-from_recursion P (out_lines targets ss tail)
      (joined P (sections_lines targets 1 ss) _ (of_sections 1 ss marks counts)
      (of_tail, (of_totals, tt)))

-- the counts of sections, of which nothing is asked
pub any_counts : (ss : List Section) → AllByRecursion (λ s. Unit {0}) ss
any_counts [] = tt
any_counts (s ∷ ss) = (tt, any_counts ss)

-- the sums over one section more
pub totals_more : (s : Section) (sections : List Section) → AddUp s.counts
    → AddUp (totals_of sections) → AddUp (totals_of (s ∷ sections))
totals_more s sections one more = omega (
  arith,
  one,
  more,
  sum_by-cons (λ (s : Section). s.counts.bodies) s sections,
  sum_by-cons (λ (s : Section). s.counts.kept) s sections,
  sum_by-cons (λ (s : Section). s.counts.repeats) s sections,
  sum_by-cons (λ (s : Section). s.counts.refused) s sections,
)

-- Where the counts of all sections add up, so do the totals.
pub totals_add_up : (ss : List Section) → AllByRecursion (λ s. AddUp s.counts) ss
    → AddUp (totals_of ss)
totals_add_up [] counts = refl
totals_add_up (s ∷ ss) counts = totals_more s ss counts.0 (totals_add_up ss counts.1)

-- These notes are of this segment or a later one.
abbrev AreFrom : ℕ → List (ℕ × Note) → Type 0
AreFrom segment notes = AllByRecursion (λ note. segment ≤ note.0) notes

from_part : (segment : ℕ) (part : List Entry) (later : List (ℕ × Note)) → AreFrom segment later
    → AreFrom segment (map (λ e. (segment, note_of e)) part ++ later)
from_part segment [] later from = from
from_part segment (e ∷ part) later from = (omega arith, from_part segment part later from)

later_segment : (segment : ℕ) (notes : List (ℕ × Note)) → AreFrom (segment + 1) notes
    → AreFrom segment notes
later_segment segment [] from = tt
later_segment segment (note ∷ notes) from =
    (omega (arith, from.0), later_segment segment notes from.1)

from_segment : (segment : ℕ) (parts : List (List Entry))
    → AreFrom segment (notes_from segment parts)
from_segment segment [] = tt
from_segment segment (part ∷ parts) = from_part segment part (notes_from (segment + 1) parts)
    (later_segment segment (notes_from (segment + 1) parts) (from_segment (segment + 1) parts))

-- where the k-th line of these notes stands, and of which segment it is
line_at : (stations : List StationSite) (segment n : ℕ) (notes : List (ℕ × Note)) (k : ℕ)
    (l : JournalLine) → AreFrom segment notes → slice_get (lines_from stations n notes) k ≡ Some l
    → (l.n ≡ n + k) × (segment ≤ l.segment)
line_at stations segment n [] k l from is = absurd cc
line_at stations segment n (note ∷ notes) zero l from is =
    let same = same_Some _ l is in (
      sym (ap (λ line. line.n) same) ∙ omega arith,
      subst (λ line. segment ≤ line.segment) same from.0,
    )
line_at stations segment n (note ∷ notes) (suc k) l from is =
    let more = line_at stations segment (n + 1) notes k l from.1 is in
    (omega (arith, more.0), more.1)

pub position_from_one : (stations : List StationSite) (parts : List (List Entry)) (k : ℕ)
    (l : JournalLine) → slice_get (journal_lines stations parts) k ≡ Some l
    → (l.n ≡ k + 1) × (1 ≤ l.segment)
position_from_one stations parts k l is =
    let at = line_at stations 1 1 (notes_from 1 parts) k l (from_segment 1 parts) is in
    (omega (arith, at.0), at.1)
