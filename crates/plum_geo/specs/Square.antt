-- Squares of the grid, and how one lies to the disc of PLUM's radius round a place (the project's
-- own).
use Rattle.std.specs.Prelude.{ℤ, pos, ◌+ℤ◌, ◌-ℤ◌, ◌≤ℤ◌, ◌<ℤ◌}
use Rattle.plum_base.specs.declared.numbers.Point.{Point}
use Rattle.plum_base.specs.Sites.{IsCoordinate}
use Rattle.plum_geo.specs.Prediction.{IsNear}
use Rattle.plum_geo.specs.declared.square.Place.{Place}
use Rattle.plum_geo.specs.declared.square.Place.TheVariants.{Inside, Outside, Cut}
use Rattle.plum_geo.specs.declared.square.Square.{Square}

-- so many metres in a row, at least one, on the grid: the first of them and how many they are
abbrev pub IsStretch : ℤ → ℤ → Type 0
IsStretch from side =
    (pos 1 ≤ℤ side) × IsCoordinate from × IsCoordinate ((from +ℤ side) -ℤ pos 1)

-- one of so many metres from the first of them on
abbrev pub IsAlong : ℤ → ℤ → ℤ → Type 0
IsAlong z from side = (from ≤ℤ z) × (z <ℤ (from +ℤ side))

-- a square of the grid, of a side of at least one metre
abbrev pub IsSquare : Square → Type 0
IsSquare s = IsStretch s.x s.side × IsStretch s.y s.side

-- The place lies in the square, which covers x to x+side-1 and y to y+side-1.
abbrev pub IsWithin : Point → Square → Type 0
IsWithin p s = IsAlong p.x s.x s.side × IsAlong p.y s.y s.side

-- How a square lies to the disc round a centre: inside where each of its places is near the
-- centre, outside where none is, and cut where one is and one is not.
abbrev pub LiesAs : Square → Point → Place → Type 0
LiesAs s centre Inside = (p : Point) → IsWithin p s → IsNear p centre
LiesAs s centre Outside = (p : Point) → IsWithin p s → ¬ IsNear p centre
LiesAs s centre Cut =
    ((p : Point) × IsWithin p s × IsNear p centre)
    × ((q : Point) × IsWithin q s × (¬ IsNear q centre))
