-- The files that are read before the capture: the setup, the stations and the targets.
use Rattle.std.specs.Prelude.{◌≡◌, ⊤, ℕ, ◌<◌, ◌≤◌, Bool, true, false, List, length, Some, Ok}
use Rattle.plum_base.specs.declared.setup.Setup.{Setup}
use Rattle.plum_base.specs.declared.sites.StationSite.{StationSite}
use Rattle.plum_base.specs.declared.sites.TargetSite.{TargetSite}
use Rattle.plum_base.specs.Sites.{SitesView}
use Rattle.plum_host.specs.declared.host.In.{In}
use Rattle.plum_host.specs.declared.host.In.TheVariants as inputs
use Rattle.plum_host.specs.Told.{HostView, WhereTold}
use Rattle.plum_table.specs.Setup.{fields_of, setup_of}
use Rattle.plum_sites.specs.Stations.{AreStationsOf}
use Rattle.plum_sites.specs.Targets.{AreTargetsOf}
use Rattle.plum.specs.Job.{Job, replay, station, check, drill}

-- the most bytes of such a file (the project's own limit)
abbrev pub MOST_BYTES : ℕ
MOST_BYTES = 16777216

-- The bytes of a file that is within the limit, and states this setup, these stations, these
-- targets.
abbrev pub IsSetupFile : Setup → List ℕ → Type 0
IsSetupFile setup bytes = (length bytes ≤ MOST_BYTES) × (setup_of bytes ≡ Ok (fields_of setup))

abbrev pub IsStationFile : List StationSite → List ℕ → Type 0
IsStationFile stations bytes = (length bytes ≤ MOST_BYTES) × AreStationsOf bytes stations

abbrev pub IsTargetFile : List TargetSite → List ℕ → Type 0
IsTargetFile targets bytes = (length bytes ≤ MOST_BYTES) × AreTargetsOf bytes targets

-- The bytes of a file are lawful: they state something. Those of other inputs always are.
abbrev pub IsLawful : In → List ℕ → Type 0
IsLawful inputs.Setup bytes = (setup : Setup) × IsSetupFile setup bytes
IsLawful inputs.Stations bytes = (stations : List StationSite) × IsStationFile stations bytes
IsLawful inputs.Targets bytes = (targets : List TargetSite) × IsTargetFile targets bytes
IsLawful other bytes = ⊤

-- The host tells what is left of this input, and this holds of the bytes.
abbrev pub Tells : HostView → In → (List ℕ → Type 0) → Type 0
Tells host file P = (bytes : List ℕ) × (host.left file ≡ Some bytes) × P bytes

-- the order of the work; an earlier journal and an earlier output come behind all of it
abbrev pub turn_of : In → ℕ
turn_of inputs.Setup = 0
turn_of inputs.Stations = 1
turn_of inputs.Targets = 2
turn_of inputs.Capture = 3
turn_of inputs.Journal = 4
turn_of inputs.Output = 4

-- It is one of the three files.
abbrev pub IsFile : In → Type 0
IsFile file = turn_of file < turn_of inputs.Capture

-- whether a command uses the targets
abbrev pub uses_targets : Job → Bool
uses_targets (replay setup stations targets capture journal) = true
uses_targets (station setup stations capture code) = false
uses_targets (check setup stations targets capture) = true
uses_targets (drill seed stations seconds) = false

-- whether a command reads the setup, the stations and the capture; a drill reads nothing
abbrev pub uses_files : Job → Bool
uses_files (replay setup stations targets capture journal) = true
uses_files (station setup stations capture code) = true
uses_files (check setup stations targets capture) = true
uses_files (drill seed stations seconds) = false

-- whether a command reads this input
abbrev pub uses : Job → In → Bool
uses job inputs.Setup = uses_files job
uses job inputs.Stations = uses_files job
uses job inputs.Targets = uses_targets job
uses job inputs.Capture = uses_files job
uses job inputs.Journal = false
uses job inputs.Output = false

-- The host tells the files that the command uses, and they are lawful.
abbrev pub TellsLawfulFiles : Job → HostView → Type 0
TellsLawfulFiles job host =
    (file : In) → IsFile file → uses job file ≡ true → Tells host file (IsLawful file)

-- Where the host tells the files that the command uses, they state this setup and these sites.
pub record FilesState (job : Job) (host : HostView) (setup : Setup) (sites : SitesView)
    : Type 0 where
  pub setup_is : WhereTold host inputs.Setup (IsSetupFile setup)
  pub stations_are : WhereTold host inputs.Stations (IsStationFile sites.stations)
  pub targets_are : uses_targets job ≡ true
      → WhereTold host inputs.Targets (IsTargetFile sites.targets)
