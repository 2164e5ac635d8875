-- What holds of the texts of the plain commands and of the summary of a drill: the statements of
-- their laws. A real setup has a lawful table; a ghost one may have any, so the law that rests on
-- it has that as a premise.
use Rattle.std.specs.Prelude.{◌≡◌, ℕ, List, Some}
use mathlib.Core.List.{IsPrefix}
use Rattle.plum_base.specs.declared.setup.Setup.{Setup}
use Rattle.plum_base.specs.declared.sites.StationSite.{StationSite}
use Rattle.plum_base.specs.Levels.{IsLevelTable}
use Rattle.plum_host.specs.declared.host.In.TheVariants as inputs
use Rattle.plum_host.specs.declared.host.To.TheVariants.{Out}
use Rattle.plum_host.specs.Told.{HostView, Appends}
use Rattle.plum_packet.specs.Capture.{AreBytes}
use Rattle.plum.specs.DrillSummary.{IsDrillSummary}
use Rattle.plum.specs.Files.{IsSetupFile, IsStationFile}
use Rattle.plum.specs.Job.{Job, IsPlain}
use Rattle.plum.specs.Plain.{BeginsTelling, IsPlainText, TellsFiles}

-- This is the text of a plain command over these three files: that of the setup and the stations
-- that the first two state, over the capture.
pub record IsTextOfFiles (job : Job) (setup_file station_file capture text : List ℕ)
    : Type 0 where
  pub setup : Setup
  pub stations : List StationSite
  pub setup_is : IsSetupFile setup setup_file
  pub stations_are : IsStationFile stations station_file
  pub text_is : IsPlainText job setup stations capture text

-- Three files have one text at most: it is a function of their bytes.
abbrev pub OnePlainText : Type 0
OnePlainText = (job : Job) (setup_file station_file capture text other : List ℕ)
    → IsTextOfFiles job setup_file station_file capture text
    → IsTextOfFiles job setup_file station_file capture other → text ≡ other

-- Each capture has a text, whatever its bytes are: with any stations, and a setup with a lawful
-- table.
abbrev pub EachHasPlainText : Type 0
EachHasPlainText = (job : Job) (setup : Setup) (stations : List StationSite) (capture : List ℕ)
    → IsPlain job → IsLevelTable setup.levels → AreBytes capture
    → (text : List ℕ) × IsPlainText job setup stations capture text

-- The host tells these three files.
pub record AreTold (host : HostView) (setup_file station_file capture : List ℕ) : Type 0 where
  pub setup_is : host.left inputs.Setup ≡ Some setup_file
  pub stations_are : host.left inputs.Stations ≡ Some station_file
  pub capture_is : host.left inputs.Capture ≡ Some capture

-- What a plain command appends when its work is done is the text of its files.
abbrev pub AppendsTextOfFiles : Type 0
AppendsTextOfFiles = (job : Job) (setup_file station_file capture : List ℕ)
    (before after : HostView) → AreTold before setup_file station_file capture
    → TellsFiles job before after
    → (text : List ℕ) × IsTextOfFiles job setup_file station_file capture text
    × Appends (before.held Out) (after.held Out) text

-- Where it breaks off in telling these files have a text, and what it appends begins that.
abbrev pub BeginsTextOfFiles : Type 0
BeginsTextOfFiles = (job : Job) (setup_file station_file capture : List ℕ)
    (before after : HostView) → IsPlain job → AreBytes capture
    → AreTold before setup_file station_file capture → BeginsTelling job before after
    → (text : List ℕ) × IsTextOfFiles job setup_file station_file capture text
    × ((bytes : List ℕ) × IsPrefix bytes text
    × Appends (before.held Out) (after.held Out) bytes)

-- A drill has one summary at most: it is a function of the drill's three numbers.
abbrev pub OneDrillSummary : Type 0
OneDrillSummary = (seed stations seconds : ℕ) (text other : List ℕ)
    → IsDrillSummary seed stations seconds text → IsDrillSummary seed stations seconds other
    → text ≡ other
