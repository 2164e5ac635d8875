-- What `drill` writes (the project's own): its three numbers, the totals of its capture, and the
-- prediction at each target, area by area. Each station shows its value after all its packets, so
-- no order in which the packets came together decides a line.
use Rattle.std.specs.Prelude.{◌≡◌, ◌⊎◌, ℕ, List, ◌++◌, length, zip, Option}
use Rattle.std.specs.List.{flat_map, AllZip}
use mathlib.Core.List.{IsPrefix}
use Rattle.plum_base.specs.declared.numbers.Tenths.{Tenths}
use Rattle.plum_base.specs.declared.packet.Packet.{Packet}
use Rattle.plum_base.specs.declared.setup.Setup.{Setup}
use Rattle.plum_base.specs.declared.sites.TargetSite.{TargetSite}
use Rattle.plum_base.specs.Sites.{SitesView, areas_of, targets_of}
use Rattle.plum_seq.specs.Keys.{of_station}
use Rattle.plum_engine.specs.Engine.{IsValueOf}
use Rattle.plum_geo.specs.Prediction.{IsPrediction}
use Rattle.plum_host.specs.declared.host.To.TheVariants.{Out}
use Rattle.plum_host.specs.Told.{HostView, Appends}
use Rattle.plum_packet.specs.Bodies.{bodies_of}
use Rattle.plum_packet.specs.Segments.{Decoded, packets_in, IsCaptureOf}
use Rattle.plum_table.specs.Setup.{fields_of}
use Rattle.plum_text.specs.declared.lines.OutLine.{OutLine}
use Rattle.plum_text.specs.declared.lines.PlainLine.TheVariants.{Drill}
use Rattle.plum_text.specs.Lines.{plain_line, out_line}
use Rattle.plum_text.specs.Texts.{answer_lines, totals_line}
use Rattle.plum.specs.DrillCapture.{drill_capture}
use Rattle.plum.specs.DrillSetup.{drill_setup}
use Rattle.plum.specs.DrillSites.{drill_stations, drill_targets}
use Rattle.plum.specs.Plain.{LeavesJournal, totals_of_bodies}

-- with how many lanes a drill is replayed
abbrev pub DRILL_LANES : ℕ
DRILL_LANES = 4

-- the sites of a drill of so many stations
abbrev pub drill_sites : ℕ → SitesView
drill_sites stations = record { stations = drill_stations stations; targets = drill_targets }

-- These are the values of the stations after all their packets, by the number of the station.
abbrev pub AreValuesAfter : Setup → List Packet → (ℕ → Option Tenths) → Type 0
AreValuesAfter setup packets values =
    (station : ℕ) → IsValueOf setup (of_station station packets) (values station)

-- These are the predictions at the targets of an area, in file order, of stations with these
-- values.
abbrev pub ArePredicted : SitesView → (ℕ → Option Tenths) → List ℕ → List (Option Tenths) → Type 0
ArePredicted sites values area answers =
    AllZip (IsPrediction sites.stations values) (targets_of area sites.targets) answers

-- the lines of the answers of each area at mark m, the areas in order, and in each its targets in
-- file order
abbrev pub answers_at : ℕ → List TargetSite → List (List (Option Tenths)) → List OutLine
answers_at m targets answers = flat_map
    (λ of_area. answer_lines m (targets_of of_area.0 targets) of_area.1)
    (zip (areas_of targets) answers)

-- This is the summary of the drill of these numbers: its capture is so many segments, decoded, and
-- its last mark is the end of the last one.
pub record IsDrillSummary (seed stations seconds : ℕ) (text : List ℕ) : Type 0 where
  pub setup : Setup
  pub setup_is : fields_of setup ≡ drill_setup DRILL_LANES
  pub segments : List (List Decoded)
  pub tail : ℕ
  pub capture_is : IsCaptureOf (drill_stations stations) (drill_capture seed stations seconds)
      segments tail
  pub values : ℕ → Option Tenths
  pub values_are : AreValuesAfter setup (packets_in (bodies_of segments)) values
  pub answers : List (List (Option Tenths))
  pub answers_are : AllZip (ArePredicted (drill_sites stations) values)
      (areas_of drill_targets) answers
  pub text_is : text ≡ plain_line (Drill seed stations seconds)
      ++ out_line (totals_line (length segments) (totals_of_bodies (bodies_of segments)))
      ++ flat_map out_line (answers_at (length segments) drill_targets answers)

-- The summary is appended to the output, and nothing to the journal.
pub record TellsDrill (seed stations seconds : ℕ) (before after : HostView) : Type 0 where
  pub text : List ℕ
  pub text_is : IsDrillSummary seed stations seconds text
  pub appended : Appends (before.held Out) (after.held Out) text
  pub journal : LeavesJournal before after

-- A beginning of the summary is appended to the output.
abbrev pub BeginsDrill : ℕ → ℕ → ℕ → HostView → HostView → Type 0
BeginsDrill seed stations seconds before after = (begun whole : List ℕ)
    × IsDrillSummary seed stations seconds whole × IsPrefix begun whole
    × Appends (before.held Out) (after.held Out) begun

-- A drill stops: nothing is appended to the journal, and to the output nothing, or a beginning of
-- its summary.
pub record StopsInDrill (seed stations seconds : ℕ) (before after : HostView) : Type 0 where
  pub journal : LeavesJournal before after
  pub output : (after.held Out ≡ before.held Out) ⊎ BeginsDrill seed stations seconds before after
