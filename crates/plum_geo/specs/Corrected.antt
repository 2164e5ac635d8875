-- The range of what stations say (the project's own).
use Rattle.std.specs.Prelude.{pos, ◌+ℤ◌, ◌-ℤ◌, ◌≤ℤ◌}
use Rattle.plum_base.specs.declared.numbers.Tenths.{Tenths}
use Rattle.plum_base.specs.Levels.{GREATEST_FACTOR}
use Rattle.plum_geo.specs.Prediction.{SCALE_LOW, SCALE_HIGH}

-- from -20.0 to 32.7: a value on the scale less the factor of a station
abbrev pub IsOnCorrectedScale : Tenths → Type 0
IsOnCorrectedScale t =
    ((SCALE_LOW -ℤ pos GREATEST_FACTOR) ≤ℤ t.0) × (t.0 ≤ℤ (SCALE_HIGH +ℤ pos GREATEST_FACTOR))
