-- Predictions by PLUM (Kodera and others 2018): no source is estimated. The prediction at a target
-- is the greatest intensity less site factor that a reporting station within 30 km shows, plus the
-- target's factor.
use Rattle.std.specs.Prelude.{◌≡◌, ◌↔◌, ℕ, Bool, true, ◌&&◌, ◌==◌, nat_le, nat_lt, int_le}
use Rattle.std.specs.Prelude.{if◌then◌else◌}
use Rattle.std.specs.Prelude.{ℤ, pos, nat_abs, neg_ℤ, ◌+ℤ◌, ◌-ℤ◌, ◌≤ℤ◌, ◌+◌, ◌*◌, ◌≤◌}
use Rattle.std.specs.Prelude.{List, length, filter, slice_get, Option, Some, None}
use Rattle.std.specs.Prelude.{All, IfSome, IsSomeAnd}
use Rattle.std.specs.List.{last_or, enumerate_from, Contains}
use Rattle.std.specs.Option.{option_and_then, option_map}
use Rattle.plum_base.specs.declared.entry.Entry.{Entry}
use Rattle.plum_base.specs.declared.numbers.Point.{Point}
use Rattle.plum_base.specs.declared.numbers.Tenths.{Tenths}
use Rattle.plum_base.specs.declared.sites.StationSite.{StationSite}
use Rattle.plum_base.specs.declared.sites.TargetSite.{TargetSite}

-- the radius of PLUM: 30 km, in metres
abbrev pub RADIUS : ℕ
RADIUS = 30000

-- the ends of what a threshold table can give, in tenths: -10.0 and 22.7
abbrev pub SCALE_LOW : ℤ
SCALE_LOW = neg_ℤ (pos 100)

abbrev pub SCALE_HIGH : ℤ
SCALE_HIGH = pos 227

-- from the one to the other
abbrev pub IsOnScale : Tenths → Type 0
IsOnScale t = (SCALE_LOW ≤ℤ t.0) × (t.0 ≤ℤ SCALE_HIGH)

-- each none, or on the scale
abbrev pub AreOnScale : List (Option Tenths) → Type 0
AreOnScale values = All (λ value. IfSome value IsOnScale) values

-- None is at most each, and a value is at most the same and any greater value.
abbrev pub IsAtMost : Option Tenths → Option Tenths → Type 0
IsAtMost a b = IfSome a (λ t. IsSomeAnd b (λ r. t.0 ≤ℤ r.0))

-- none, or on the scale
abbrev pub none_or_on_scale : Option Tenths → Bool
none_or_on_scale None = true
none_or_on_scale (Some t) = int_le SCALE_LOW t.0 && int_le t.0 SCALE_HIGH

-- the entry is of this station, and its value is none or on the scale
abbrev pub is_shown_by : ℕ → Entry → Bool
is_shown_by station e = (e.station.0 == station) && none_or_on_scale e.value

-- the station's entries whose value is none or on the scale
abbrev pub shown_entries : List Entry → ℕ → List Entry
shown_entries history station = filter (λ e. is_shown_by station e) history

-- the value of the last of these entries; none where there is no entry
abbrev pub last_value : List Entry → Option Tenths
last_value entries = option_and_then (λ e. e.value) (last_or None entries)

-- What a station shows in a history, where there are so many stations: the value of its last entry
-- there; none where it has no entry or is not listed. An entry whose value is off the scale is
-- passed over; a valid history has none.
abbrev pub shown : ℕ → List Entry → ℕ → Option Tenths
shown stations history station =
    if nat_lt station stations
    then last_value (shown_entries history station)
    else None

-- the square of the distance of two places, in square metres
abbrev pub distance_squared : Point → Point → ℕ
distance_squared a b =
    nat_abs (a.x -ℤ b.x) * nat_abs (a.x -ℤ b.x) + nat_abs (a.y -ℤ b.y) * nat_abs (a.y -ℤ b.y)

-- within 30 km, the boundary included
abbrev pub IsNear : Point → Point → Type 0
IsNear a b = distance_squared a b ≤ RADIUS * RADIUS

-- the same as a test
abbrev pub is_near : Point → Point → Bool
is_near a b = nat_le (distance_squared a b) (RADIUS * RADIUS)

-- The stations within 30 km of a place, each with its position in the list, from 0: a scan of the
-- whole list.
unfoldable pub near_stations : List StationSite → Point → List (ℕ × StationSite)
near_stations stations place = filter (λ p. is_near p.1.at place) (enumerate_from 0 stations)

-- A station is among those near a place, with this position, exactly where it stands in the list
-- there and is near.
abbrev pub FindsNear : Type 0
FindsNear = (stations : List StationSite) (place : Point) (n : ℕ) (site : StationSite)
    → Contains (near_stations stations place) (n, site)
    ↔ ((slice_get stations n ≡ Some site) × IsNear site.at place)

-- Of stations that show these values, by their numbers, station n is near the place and shows this
-- one: it reports.
pub record Reports (stations : List StationSite) (values : ℕ → Option Tenths)
    (place : Point) (n : ℕ) (value : Tenths) : Type 0 where
  pub site : StationSite
  pub near : Contains (near_stations stations place) (n, site)
  pub shows : values n ≡ Some value

-- a value less the factor of its station
abbrev pub corrected : StationSite → Tenths → ℤ
corrected site value = value.0 -ℤ site.factor.0

-- One of those that report shows a value that is this with its factor taken away.
abbrev pub IsSaid : List StationSite → (ℕ → Option Tenths) → Point → Tenths → Type 0
IsSaid stations values place said = (n : ℕ) × (value : Tenths)
    × (r : Reports stations values place n value) × (said.0 ≡ corrected r.site value)

-- The best at a place is none exactly where no near station reports. Any other is a value less
-- factor of one of those that report, and none of theirs is greater.
abbrev pub IsBest : List StationSite → (ℕ → Option Tenths) → Point → Option Tenths → Type 0
IsBest stations values place None = (n : ℕ) (value : Tenths)
    → ¬ Reports stations values place n value
IsBest stations values place (Some best) =
    IsSaid stations values place best
    × ((n : ℕ) (value : Tenths) (r : Reports stations values place n value)
    → corrected r.site value ≤ℤ best.0)

-- with the factor of a target; none stays none
abbrev pub plus_factor : TargetSite → Option Tenths → Option Tenths
plus_factor target best = option_map (λ t. record { 0 = t.0 +ℤ target.factor.0 }) best

-- The prediction at a target, of stations that show these values: the best at its place, plus the
-- target's factor.
abbrev pub IsPrediction : List StationSite → (ℕ → Option Tenths) → TargetSite → Option Tenths
    → Type 0
IsPrediction stations values target answer =
    (best : Option Tenths) × IsBest stations values target.at best
    × (answer ≡ plus_factor target best)

-- The prediction at a target over a history: that of what each station shows there.
abbrev pub IsPredictionOver : List StationSite → List Entry → TargetSite → Option Tenths → Type 0
IsPredictionOver stations history target answer =
    IsPrediction stations (shown (length stations) history) target answer
