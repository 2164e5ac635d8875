-- The two texts of a run, over plain data (the project's own format).
use Rattle.std.specs.Prelude.{◌≡◌, ℕ, ◌+◌, List, [], ◌∷◌, ◌++◌, length, map, sum_by, zip}
use Rattle.std.specs.Prelude.{Option, Some, None, slice_get}
use Rattle.std.specs.List.{flat_map, AllZip}
use Rattle.std.specs.Option.{option_map}
use Rattle.plum_base.specs.declared.answers.Reading.{Reading}
use Rattle.plum_base.specs.declared.counts.Counts.{Counts}
use Rattle.plum_base.specs.declared.entry.Entry.{Entry}
use Rattle.plum_base.specs.declared.note.Note.{Note}
use Rattle.plum_base.specs.declared.numbers.Tenths.{Tenths}
use Rattle.plum_base.specs.declared.packet.RefusedBody.{RefusedBody}
use Rattle.plum_base.specs.declared.rules.Alert.{Alert}
use Rattle.plum_base.specs.declared.sites.StationSite.{StationSite}
use Rattle.plum_base.specs.declared.sites.TargetSite.{TargetSite}
use Rattle.plum_base.specs.Note.{note_of}
use Rattle.plum_base.specs.Sites.{areas_of, targets_of}
use Rattle.plum_scale.specs.Classes.{class_of}
use Rattle.plum_text.specs.declared.lines.JournalLine.{JournalLine}
use Rattle.plum_text.specs.declared.lines.OutLine.{OutLine}
use Rattle.plum_text.specs.declared.lines.OutLine.TheVariants.{Mark, Refused, Answer, Tail, Totals}
use Rattle.plum_text.specs.declared.lines.OutLine.TheVariants.{Reading as ReadingLine}
use Rattle.plum_text.specs.declared.lines.OutLine.TheVariants.{Alert as AlertLine}
use Rattle.plum_text.specs.Lines.{journal_line, out_line}

-- the notes of these parts of a journal, each with its segment, the first part being of this one
abbrev pub notes_from : ℕ → List (List Entry) → List (ℕ × Note)
notes_from segment [] = []
notes_from segment (part ∷ parts) =
    map (λ e. (segment, note_of e)) part ++ notes_from (segment + 1) parts

-- the code of the n-th station, from 0; 0 where it is not listed
abbrev pub code_in : Option StationSite → ℕ
code_in None = 0
code_in (Some s) = s.code

abbrev pub code_of_station : List StationSite → ℕ → ℕ
code_of_station stations n = code_in (slice_get stations n)

-- the journal line of a note of a segment, at position n of the journal
abbrev pub line_of_note : List StationSite → ℕ → ℕ × Note → JournalLine
line_of_note stations n note = record {
  n = n;
  segment = note.0;
  station = code_of_station stations note.1.station.0;
  key = note.1.key;
  fresh = note.1.fresh;
  value = note.1.value;
}

-- the lines of these notes, the first of them at position n of the journal
abbrev pub lines_from : List StationSite → ℕ → List (ℕ × Note) → List JournalLine
lines_from stations n [] = []
lines_from stations n (note ∷ notes) =
    line_of_note stations n note ∷ lines_from stations (n + 1) notes

-- the lines of a journal cut into the parts of the segments: one for each entry, positions and
-- segments from 1
abbrev pub journal_lines : List StationSite → List (List Entry) → List JournalLine
journal_lines stations parts = lines_from stations 1 (notes_from 1 parts)

-- the text of a journal
abbrev pub journal_text : List StationSite → List (List Entry) → List ℕ
journal_text stations parts = flat_map journal_line (journal_lines stations parts)

-- What the output tells at a mark: the counts of its segment, the refused bodies in it, each with
-- the number of its record, and for each area a reading and an alert or none.
pub record Section : Type 0 where
  pub counts : Counts
  pub refused : List RefusedBody
  pub readings : List Reading
  pub alerts : List (Option Alert)

-- the line of an answer at mark m; its class is that of its value
abbrev pub answer_line : ℕ → TargetSite → Option Tenths → OutLine
answer_line m target value = Answer m target.name value (option_map class_of value)

-- the lines of these answers at mark m, one for each target
abbrev pub answer_lines : ℕ → List TargetSite → List (Option Tenths) → List OutLine
answer_lines m targets answers = map (λ a. answer_line m a.0 a.1) (zip targets answers)

-- the line of an alert; none where there is none
abbrev pub alert_lines : ℕ → List ℕ → Option Alert → List OutLine
alert_lines m area None = []
alert_lines m area (Some alert) = AlertLine m area alert ∷ []

-- what is told of an area at mark m: the front of its reading, an answer for each of its targets in
-- file order, and its alert where there is one
abbrev pub area_lines : List TargetSite → ℕ → List ℕ → Reading → Option Alert → List OutLine
area_lines targets m area reading alert = ReadingLine m area reading.front
    ∷ answer_lines m (targets_of area targets) reading.answers ++ alert_lines m area alert

-- what is told of these areas at mark m, in order
abbrev pub areas_lines : List TargetSite → ℕ → List (List ℕ) → List Reading → List (Option Alert)
    → List OutLine
areas_lines targets m (area ∷ areas) (reading ∷ readings) (alert ∷ alerts) =
    area_lines targets m area reading alert ++ areas_lines targets m areas readings alerts
areas_lines targets m areas readings alerts = []

-- the line of the counts at mark m
abbrev pub mark_line : ℕ → Counts → OutLine
mark_line m c = Mark m c.bodies c.kept c.repeats c.refused

-- the lines of refused bodies
abbrev pub refused_lines : List RefusedBody → List OutLine
refused_lines refused = map (λ r. Refused r.number r.fault) refused

-- the section of mark m: its counts, its refused bodies in the order of the records, and its areas
abbrev pub section_lines : List TargetSite → ℕ → Section → List OutLine
section_lines targets m s =
    mark_line m s.counts ∷ refused_lines s.refused
    ++ areas_lines targets m (areas_of targets) s.readings s.alerts

abbrev pub sections_lines : List TargetSite → ℕ → List Section → List OutLine
sections_lines targets m [] = []
sections_lines targets m (s ∷ ss) = section_lines targets m s ++ sections_lines targets (m + 1) ss

-- the sums over all segments
abbrev pub totals_of : List Section → Counts
totals_of sections = record {
  bodies = sum_by (λ s. s.counts.bodies) sections;
  kept = sum_by (λ s. s.counts.kept) sections;
  repeats = sum_by (λ s. s.counts.repeats) sections;
  refused = sum_by (λ s. s.counts.refused) sections;
}

-- the line of the totals over so many segments
abbrev pub totals_line : ℕ → Counts → OutLine
totals_line segments c = Totals segments c.bodies c.kept c.repeats c.refused

-- the last two lines: the length of the tail, and the totals over so many segments
abbrev pub end_lines : ℕ → ℕ → Counts → List OutLine
end_lines tail segments c = Tail tail ∷ totals_line segments c ∷ []

-- the lines of an output: the sections of all marks, from 1, the length of the tail, and the totals
abbrev pub out_lines : List TargetSite → List Section → ℕ → List OutLine
out_lines targets sections tail =
    sections_lines targets 1 sections ++ end_lines tail (length sections) (totals_of sections)

-- the text of an output
abbrev pub out_text : List TargetSite → List Section → ℕ → List ℕ
out_text targets sections tail = flat_map out_line (out_lines targets sections tail)

-- A section has, over these targets, a reading and an alert or none for each area, and an answer
-- for each target of the area.
pub record IsWhole (targets : List TargetSite) (s : Section) : Type 0 where
  pub alerts : length s.alerts ≡ length (areas_of targets)
  pub answers : AllZip (λ area reading. length reading.answers ≡ length (targets_of area targets))
      (areas_of targets) s.readings
