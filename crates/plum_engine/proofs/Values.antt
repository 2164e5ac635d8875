-- A run has one value, and a function gives it: they are those of its level.
use Rattle.std.proofs.Common.{◌≡◌, ℕ, List, Option, Some, None, refl, ◌∙◌, ap}
use Rattle.std.specs.Option.{option_map}
use Rattle.plum_base.specs.declared.numbers.Tenths.{Tenths}
use Rattle.plum_base.specs.Levels.{LevelsView}
use Rattle.plum_level.specs.Level.{IsLevelOfRun, OneLevel, LevelIs}
use Rattle.plum_engine.specs.Engine.{value_of, OneValue, ValueIs}
use Rattle.plum_engine.specs.Run.{run_of}
use Rattle.plum_engine.specs.Signal.{amplitudes_of}
use Rattle.plum_engine.specs.Value.{tenths_at, IsValue, value_of_run}

module _ (table : LevelsView) (xs : List ℕ) where
  -- A run's value is what the function gives.
  value_of_run-only : OneLevel → (value : Option Tenths)
      → IsValue table xs value → value ≡ value_of_run table xs
  value_of_run-only one_level None none =
      ap (option_map (tenths_at table)) (one_level table.thresholds xs None none)
  value_of_run-only one_level (Some value) (i, level, is) =
      ap Some is ∙ ap (option_map (tenths_at table)) (one_level table.thresholds xs (Some i) level)

  -- What its level stands for is its value.
  IsValue-from_level : (level : Option ℕ) → IsLevelOfRun table.thresholds xs level
      → IsValue table xs (option_map (tenths_at table) level)
  IsValue-from_level None none = none
  IsValue-from_level (Some i) level = (i, level, refl)

-- A station's value is what the function gives.
pub value_of-only : OneLevel → OneValue
unfolding value_of
value_of-only one_level setup packets value is =
    value_of_run-only setup.levels (amplitudes_of setup (run_of packets)) one_level value is

-- At a lawful table, what the function gives is the station's value.
pub value_of-is : LevelIs → ValueIs
unfolding value_of
value_of-is level_is setup packets lawful =
    let amplitudes = amplitudes_of setup (run_of packets) in
    IsValue-from_level setup.levels amplitudes _
    (level_is setup.levels.thresholds amplitudes lawful.thresholds.start)
