-- The files of a drill, and how large a drill may be (the project's own).
use Rattle.std.specs.Prelude.{ℕ, ◌≤◌, []}
use Rattle.plum_host.specs.declared.memory.MemFiles.{MemFiles}
use Rattle.plum.specs.DrillCapture.{drill_capture}
use Rattle.plum.specs.DrillSetup.{drill_setup, setup_text}
use Rattle.plum.specs.DrillSites.{drill_stations, drill_targets, stations_text, targets_text}

-- how many stations, and how many seconds, a drill has at most
abbrev pub MOST_DRILL_STATIONS : ℕ
MOST_DRILL_STATIONS = 400

abbrev pub MOST_DRILL_SECONDS : ℕ
MOST_DRILL_SECONDS = 300

-- A drill may have so many stations, and last so many seconds.
abbrev pub IsDrillSize : ℕ → ℕ → Type 0
IsDrillSize stations seconds = (1 ≤ stations) × (stations ≤ MOST_DRILL_STATIONS)
    × (1 ≤ seconds) × (seconds ≤ MOST_DRILL_SECONDS)

-- The files of a drill with this seed, so many stations, seconds and lanes. An earlier journal and
-- an earlier output are empty.
abbrev pub drill_files : ℕ → ℕ → ℕ → ℕ → MemFiles
drill_files seed stations seconds lanes = record {
  setup = setup_text (drill_setup lanes);
  stations = stations_text (drill_stations stations);
  targets = targets_text drill_targets;
  capture = drill_capture seed stations seconds;
  journal = [];
  output = [];
}
