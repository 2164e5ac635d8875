-- A pyramid, and what its stations were set to.
use Rattle.std.specs.Prelude.{◌≡◌, ℕ, ◌==◌, List, length, filter, replicate, slice_set, Option}
use Rattle.std.specs.Prelude.{None}
use Rattle.std.specs.List.{last_or}
use Rattle.std.specs.Option.{option_and_then}
use Rattle.plum_base.specs.declared.numbers.StationNo.{StationNo}
use Rattle.plum_base.specs.declared.numbers.Tenths.{Tenths}
use Rattle.plum_base.specs.declared.sites.StationSite.{StationSite}
use Rattle.plum_geo.specs.Shown.{value_in}

-- the stations of a pyramid, and the value of each by its number, or none
pub record PyramidView : Type 0 where
  pub stations : List StationSite
  pub values : List (Option Tenths)

-- a station that is set to a value, or to none
pub record Setting : Type 0 where
  pub station : StationNo
  pub value : Option Tenths

-- the value that a station was last set to; none where it was never set
abbrev pub last_set : List Setting → ℕ → Option Tenths
last_set settings n =
    option_and_then (λ s. s.value) (last_or None (filter (λ s. s.station.0 == n) settings))

-- The pyramid of these stations after these were set, one after the other.
pub record StandsFor (pyramid : PyramidView) (stations : List StationSite)
    (settings : List Setting) : Type 0 where
  pub same_stations : pyramid.stations ≡ stations
  pub count : length pyramid.values ≡ length stations
  pub each : (n : ℕ) → value_in pyramid.values n ≡ last_set settings n

-- the pyramid of stations of which none has a value
abbrev pub new_pyramid : List StationSite → PyramidView
new_pyramid stations = record {
  stations = stations;
  values = replicate (length stations) None;
}

-- the pyramid after one station was set
abbrev pub pyramid_after : PyramidView → Setting → PyramidView
pyramid_after pyramid s = record {
  stations = pyramid.stations;
  values = slice_set pyramid.values s.station.0 s.value;
}
