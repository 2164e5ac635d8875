-- The intensity of a run: the tenths that its level stands for (the JMA intensity).
use Rattle.std.specs.Prelude.{◌≡◌, ℕ, pos, ◌+ℤ◌, List, Option, Some, None}
use Rattle.std.specs.Option.{option_map}
use Rattle.plum_base.specs.declared.numbers.Tenths.{Tenths}
use Rattle.plum_base.specs.Levels.{LevelsView}
use Rattle.plum_level.specs.Level.{IsLevelOfRun, level_of}

-- the tenths that a level stands for: the base and the level
abbrev pub tenths_at : LevelsView → ℕ → Tenths
tenths_at table level = record { 0 = table.base.0 +ℤ pos level }

-- A run of fewer than 30 samples has no level, and no value. Any other has the tenths of its level.
abbrev pub IsValue : LevelsView → List ℕ → Option Tenths → Type 0
IsValue table amplitudes None = IsLevelOfRun table.thresholds amplitudes None
IsValue table amplitudes (Some value) =
    (level : ℕ) × IsLevelOfRun table.thresholds amplitudes (Some level)
    × (value ≡ tenths_at table level)

-- The value of a run, as a function of its amplitudes.
abbrev pub value_of_run : LevelsView → List ℕ → Option Tenths
value_of_run table amplitudes =
    option_map (tenths_at table) (level_of table.thresholds amplitudes)
