-- The stations and the targets of a drill, and their files (the project's own).
use Rattle.std.specs.Prelude.{ℕ, ◌+◌, ◌*◌, ◌/◌, ◌%◌, ℤ, pos, ◌-ℤ◌, List, [], ◌∷◌, ◌++◌, map, codes}
use Rattle.std.specs.Prelude.{decimal}
use Rattle.std.specs.Fmt.{signed_decimal}
use Rattle.std.specs.List.{flat_map, range_with_len}
use Rattle.plum_base.specs.declared.numbers.Point.{Point}
use Rattle.plum_base.specs.declared.numbers.Tenths.{Tenths}
use Rattle.plum_base.specs.declared.sites.StationSite.{StationSite}
use Rattle.plum_base.specs.declared.sites.TargetSite.{TargetSite}

-- how many targets there are
abbrev pub DRILL_TARGETS : ℕ
DRILL_TARGETS = 64

-- a place, in metres
abbrev pub place : ℕ → ℕ → Point
place x y = record { x = pos x; y = pos y }

-- so many tenths, above or below 0
abbrev pub tenths_less : ℕ → ℕ → Tenths
tenths_less n less = record { 0 = pos n -ℤ pos less }

-- station i, from 0: rows of twenty, 4 km apart
abbrev pub drill_station : ℕ → StationSite
drill_station i = record {
  code = i + 1;
  at = place (4000 * (i % 20)) (4000 * (i / 20));
  factor = tenths_less (i % 5) 2;
}

-- a digit, as text
abbrev pub digit : ℕ → ℕ
digit n = 48 + n

-- target j, from 0: rows of eight, 10 km apart. Its name is `t` and j in two digits, its area `a`
-- and its place in the row.
abbrev pub drill_target : ℕ → TargetSite
drill_target j = record {
  name = 116 ∷ digit (j / 10) ∷ digit (j % 10) ∷ [];
  area = 97 ∷ digit (j % 8) ∷ [];
  at = place (10000 * (j % 8)) (10000 * (j / 8));
  factor = tenths_less (j % 3) 1;
}

-- the stations and the targets, in file order
abbrev pub drill_stations : ℕ → List StationSite
drill_stations stations = map drill_station (range_with_len 0 stations)

abbrev pub drill_targets : List TargetSite
drill_targets = map drill_target (range_with_len 0 DRILL_TARGETS)

-- a signed number, as a field that is not the first
abbrev pub integer_field : ℤ → List ℕ
integer_field z = codes "," ++ signed_decimal z

-- a place and a factor, as the last fields of a row
abbrev pub place_fields : Point → Tenths → List ℕ
place_fields at factor =
    integer_field at.x ++ integer_field at.y ++ integer_field factor.0 ++ codes "\n"

-- the row of a station, and of a target
abbrev pub station_row : StationSite → List ℕ
station_row s = decimal s.code ++ place_fields s.at s.factor

abbrev pub target_row : TargetSite → List ℕ
target_row t = t.name ++ codes "," ++ t.area ++ place_fields t.at t.factor

-- the file of stations, and of targets: its header and a row for each
abbrev pub stations_text : List StationSite → List ℕ
stations_text stations = codes "code,x,y,factor\n" ++ flat_map station_row stations

abbrev pub targets_text : List TargetSite → List ℕ
targets_text targets = codes "name,area,x,y,factor\n" ++ flat_map target_row targets
