-- What the plain commands write (the project's own): `station` one line for each kept packet of a
-- station, and how many of its packets were kept and how many repeats; `check` the refused bodies,
-- the length of the tail, and the totals. What is kept, what is fresh and a station's value are
-- those of a journal.
use Rattle.std.specs.Prelude.{◌≡◌, ◌-◌, ◌⊎◌, ℕ, List, [], ◌∷◌, ◌++◌, length, map, Option, Some}
use Rattle.std.specs.Prelude.{None}
use Rattle.std.specs.List.{flat_map}
use mathlib.Core.List.{IsPrefix}
use Rattle.plum_base.specs.declared.counts.Counts.{Counts as CountsOf}
use Rattle.plum_base.specs.declared.entry.Entry.{Entry}
use Rattle.plum_base.specs.declared.numbers.StationNo.{StationNo}
use Rattle.plum_base.specs.declared.packet.Packet.{Packet}
use Rattle.plum_base.specs.declared.setup.Setup.{Setup}
use Rattle.plum_base.specs.declared.sites.StationSite.{StationSite}
use Rattle.plum_base.specs.Levels.{IsLevelTable}
use Rattle.plum_base.specs.Sites.{IsFoundAt}
use Rattle.plum_seq.specs.Keys.{of_station, kept}
use Rattle.plum_core.specs.History.{IsValidHistory, HoldsKept}
use Rattle.plum_packet.specs.Bodies.{bodies_of}
use Rattle.plum_packet.specs.Counts.{counts_in}
use Rattle.plum_packet.specs.Reading.{IsReadToEnd, MOST_RECORDS}
use Rattle.plum_packet.specs.Segments.{Decoded, packets_in, refused_in, IsCaptureOf}
use Rattle.plum_text.specs.declared.lines.OutLine.{OutLine}
use Rattle.plum_text.specs.declared.lines.PlainLine.{PlainLine}
use Rattle.plum_text.specs.declared.lines.PlainLine.TheVariants.{Value, Counts}
use Rattle.plum_text.specs.Lines.{plain_line, out_line}
use Rattle.plum_text.specs.Texts.{refused_lines, end_lines}
use Rattle.plum_host.specs.declared.host.In.TheVariants as inputs
use Rattle.plum_host.specs.declared.host.To.TheVariants.{Out, Journal}
use Rattle.plum_host.specs.Told.{HostView, WhereTold, Appends}
use Rattle.plum.specs.Files.{IsSetupFile, IsStationFile}
use Rattle.plum.specs.Job.{Job, replay, station, check, drill}

-- the packets of a station, none where there is no such station
abbrev pub packets_of : Option StationNo → List Packet → List Packet
packets_of None packets = []
packets_of (Some n) packets = of_station n.0 packets

-- the line of a kept packet
abbrev pub value_line : Entry → PlainLine
value_line e = Value e.key e.fresh e.value

-- These are the entries of the kept ones of a station's packets: each is fresh or not, and has the
-- station's value after it, as in a journal.
pub record IsHistoryOf (setup : Setup) (stations : ℕ) (own : List Packet) (history : List Entry)
    : Type 0 where
  pub valid : IsValidHistory setup stations history
  pub holds : HoldsKept history own

-- how many of a station's packets were kept, and how many repeats
abbrev pub counts_line : List Packet → List Entry → PlainLine
counts_line own history = Counts (length history) (length own - length history)

-- The lines of the station of this code among packets in file order.
pub record AreStationLines (setup : Setup) (stations : List StationSite) (code : ℕ)
    (packets : List Packet) (lines : List PlainLine) : Type 0 where
  pub found : Option StationNo
  pub found_at : IsFoundAt stations code found
  pub history : List Entry
  pub history_is : IsHistoryOf setup (length stations) (packets_of found packets) history
  pub lines_are : lines
      ≡ map value_line history ++ counts_line (packets_of found packets) history ∷ []

-- what is counted of these bodies in all; a packet is kept or a repeat by all earlier ones
abbrev pub totals_of_bodies : List Decoded → CountsOf
totals_of_bodies bodies = counts_in bodies (kept (packets_in bodies))

-- the lines of a check of these segments and a tail of this length: those of the refused bodies,
-- and the last two of an output
abbrev pub check_lines : List (List Decoded) → ℕ → List OutLine
check_lines segments tail = refused_lines (refused_in (bodies_of segments))
    ++ end_lines tail (length segments) (totals_of_bodies (bodies_of segments))

-- the text of a plain command over these segments and a tail of this length
abbrev pub IsTextOver : Job → Setup → List StationSite → List (List Decoded) → ℕ → List ℕ → Type 0
IsTextOver (replay setup_path stations_path targets capture journal) setup stations segments tail
    text = ⊥
IsTextOver (station setup_path stations_path capture code) setup stations segments tail text =
    (lines : List PlainLine)
    × AreStationLines setup stations code (packets_in (bodies_of segments)) lines
    × (text ≡ flat_map plain_line lines)
IsTextOver (check setup_path stations_path targets capture) setup stations segments tail text =
    text ≡ flat_map out_line (check_lines segments tail)
IsTextOver (drill seed drilled seconds) setup stations segments tail text = ⊥

-- This is the text of a plain command over this capture, whole.
pub record IsPlainText (job : Job) (setup : Setup) (stations : List StationSite)
    (capture text : List ℕ) : Type 0 where
  pub segments : List (List Decoded)
  pub tail : ℕ
  pub capture_is : IsCaptureOf stations capture segments tail
  pub text_is : IsTextOver job setup stations segments tail text

-- These bytes begin the text of a plain command over this capture: its text begins with them.
abbrev pub BeginsPlainText : Job → Setup → List StationSite → List ℕ → List ℕ → Type 0
BeginsPlainText job setup stations capture bytes =
    (text : List ℕ) → IsPlainText job setup stations capture text → IsPrefix bytes text

-- Nothing is appended to the journal.
abbrev pub LeavesJournal : HostView → HostView → Type 0
LeavesJournal before after = after.held Journal ≡ before.held Journal

-- The text of a plain command over this capture is appended to the output, and nothing to the
-- journal. The capture is read to its end.
pub record AppendsPlain (job : Job) (setup : Setup) (stations : List StationSite)
    (capture : List ℕ) (before after : HostView) : Type 0 where
  pub text : List ℕ
  pub text_is : IsPlainText job setup stations capture text
  pub appended : Appends (before.held Out) (after.held Out) text
  pub journal : LeavesJournal before after
  pub read : IsReadToEnd MOST_RECORDS capture (after.left inputs.Capture)

-- A beginning of the text of a plain command over this capture is appended to the output.
abbrev pub AppendsPlainBegun : Job → Setup → List StationSite → List ℕ → HostView → HostView
    → Type 0
AppendsPlainBegun job setup stations capture before after = (bytes : List ℕ)
    × BeginsPlainText job setup stations capture bytes
    × Appends (before.held Out) (after.held Out) bytes

-- The text is appended for the setup and the stations that the files state, where the host tells
-- the capture. The setup's table is lawful.
pub record TellsFiles (job : Job) (before after : HostView) : Type 0 where
  pub setup : Setup
  pub stations : List StationSite
  pub table : IsLevelTable setup.levels
  pub setup_is : WhereTold before inputs.Setup (IsSetupFile setup)
  pub stations_are : WhereTold before inputs.Stations (IsStationFile stations)
  pub tells : WhereTold before inputs.Capture (λ capture.
      AppendsPlain job setup stations capture before after)

-- So is a beginning of it.
pub record BeginsTelling (job : Job) (before after : HostView) : Type 0 where
  pub setup : Setup
  pub stations : List StationSite
  pub table : IsLevelTable setup.levels
  pub setup_is : WhereTold before inputs.Setup (IsSetupFile setup)
  pub stations_are : WhereTold before inputs.Stations (IsStationFile stations)
  pub begun : WhereTold before inputs.Capture (λ capture.
      AppendsPlainBegun job setup stations capture before after)

-- A plain command stops: nothing is appended to the journal, and to the output nothing, or a
-- beginning of the command's text.
pub record StopsInTelling (job : Job) (before after : HostView) : Type 0 where
  pub journal : LeavesJournal before after
  pub output : (after.held Out ≡ before.held Out) ⊎ BeginsTelling job before after
