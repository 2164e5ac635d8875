-- The lane of a station (the project's own rule).
use Rattle.std.specs.Prelude.{ℕ, ◌%◌}

-- its position in the station file, from 0, modulo the number of lanes
abbrev pub lane_of : ℕ → ℕ → ℕ
lane_of lanes station = station % lanes
