-- What lines and texts tell: all that stands in them.
use Rattle.std.specs.Prelude.{◌≡◌, ◌+◌, ◌<◌, ◌≤◌, ℕ, ⊤, List, length, slice_get, All}
use Rattle.std.specs.Prelude.{Some, option_map}
use Rattle.std.specs.List.{AllByRecursion}
use Rattle.plum_scale.specs.Classes.{class_of}
use Rattle.plum_text.specs.declared.lines.OutLine.TheVariants.{Mark, Reading, Answer, Alert, Totals}
use Rattle.plum_base.specs.Counts.{AddUp}
use Rattle.plum_base.specs.Sites.{AreCodesDistinct}
use Rattle.plum_base.specs.declared.entry.Entry.{Entry}
use Rattle.plum_base.specs.declared.sites.StationSite.{StationSite}
use Rattle.plum_base.specs.declared.sites.TargetSite.{TargetSite}
use Rattle.plum_text.specs.declared.lines.JournalLine.{JournalLine}
use Rattle.plum_text.specs.declared.lines.OutLine.{OutLine}
use Rattle.plum_text.specs.Lines.{IsJournalLine, FitsJournal, IsOutLine, FitsOut}
use Rattle.plum_text.specs.Texts.{Section, IsWhole, notes_from, journal_lines}
use Rattle.plum_text.specs.Texts.{journal_text}
use Rattle.plum_text.specs.Texts.{out_lines, out_text}

-- The bytes of a line determine its fields.
abbrev pub OneJournalLine : Type 0
OneJournalLine = (bytes : List ℕ) (l k : JournalLine) → IsJournalLine l bytes
    → IsJournalLine k bytes → l ≡ k

abbrev pub OneOutLine : Type 0
OneOutLine = (bytes : List ℕ) (l k : OutLine) → IsOutLine l bytes → IsOutLine k bytes → l ≡ k

-- The parts of a journal can be told: each entry is of a listed station, and each number fits its
-- field.
pub record CanBeTold (stations : List StationSite) (parts : List (List Entry)) : Type 0 where
  pub listed : All (λ part. All (λ e. e.station.0 < length stations) part) parts
  pub fits : All FitsJournal (journal_lines stations parts)

-- For stations of distinct codes the text of a journal determines, entry by entry, its position,
-- segment, station, key, run and value.
abbrev pub JournalTells : Type 0
JournalTells = (stations : List StationSite) (parts others : List (List Entry))
    → AreCodesDistinct stations
    → CanBeTold stations parts → CanBeTold stations others
    → journal_text stations parts ≡ journal_text stations others
    → notes_from 1 parts ≡ notes_from 1 others

-- The sections of an output can be told: each is whole over the targets, and each number fits its
-- field.
pub record SectionsCanBeTold (targets : List TargetSite) (sections : List Section) (tail : ℕ)
    : Type 0 where
  pub whole : All (IsWhole targets) sections
  pub fits : All FitsOut (out_lines targets sections tail)

-- The text of an output determines, section by section, its counts, refused bodies, fronts, answers
-- and alerts, and the length of the tail.
abbrev pub OutputTells : Type 0
OutputTells = (targets : List TargetSite) (sections others : List Section) (tail other_tail : ℕ)
    → SectionsCanBeTold targets sections tail → SectionsCanBeTold targets others other_tail
    → out_text targets sections tail ≡ out_text targets others other_tail
    → (sections ≡ others) × (tail ≡ other_tail)

-- In the line of an answer the class is that of the value.
abbrev pub SaysItsClass : OutLine → Type 0
SaysItsClass (Answer m target value class) = class ≡ option_map class_of value
SaysItsClass l = ⊤

abbrev pub ClassesAreOfValues : Type 0
ClassesAreOfValues = (targets : List TargetSite) (sections : List Section) (tail : ℕ)
    → All SaysItsClass (out_lines targets sections tail)

-- In a line of counts each body is counted once.
abbrev pub SaysItsSum : OutLine → Type 0
SaysItsSum (Mark m bodies kept repeats refused) =
    AddUp (record { bodies = bodies; kept = kept; repeats = repeats; refused = refused })
SaysItsSum (Totals segments bodies kept repeats refused) =
    AddUp (record { bodies = bodies; kept = kept; repeats = repeats; refused = refused })
SaysItsSum l = ⊤

abbrev pub SumsAddUp : Type 0
SumsAddUp = (targets : List TargetSite) (sections : List Section) (tail : ℕ)
    → AllByRecursion (λ s. AddUp s.counts) sections
    → All SaysItsSum (out_lines targets sections tail)

-- The mark that a line tells of, where it tells of one, is from 1 to the last.
abbrev pub IsOfMarkTo : ℕ → OutLine → Type 0
IsOfMarkTo last (Mark m bodies kept repeats refused) = (1 ≤ m) × (m ≤ last)
IsOfMarkTo last (Reading m area front) = (1 ≤ m) × (m ≤ last)
IsOfMarkTo last (Answer m target value class) = (1 ≤ m) × (m ≤ last)
IsOfMarkTo last (Alert m area alert) = (1 ≤ m) × (m ≤ last)
IsOfMarkTo last l = ⊤

abbrev pub MarksFromOne : Type 0
MarksFromOne = (targets : List TargetSite) (sections : List Section) (tail : ℕ)
    → All (IsOfMarkTo (length sections)) (out_lines targets sections tail)

-- The k-th line of a journal, from 0, has the position k + 1, and its segment is from 1.
abbrev pub PositionsFromOne : Type 0
PositionsFromOne = (stations : List StationSite) (parts : List (List Entry)) (k : ℕ)
    (l : JournalLine) → slice_get (journal_lines stations parts) k ≡ Some l
    → (l.n ≡ k + 1) × (1 ≤ l.segment)
