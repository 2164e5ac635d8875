-- What stations in some order say, and the greatest of it over a run of them.
use Rattle.std.specs.Prelude.{◌≡◌, ◌⊎◌, ℕ, ◌<◌, ◌≤◌, if◌then◌else◌, List, length}
use Rattle.std.specs.Prelude.{slice_get, Option, Some, None, IfSome}
use Rattle.std.specs.Option.{option_map}
use Rattle.plum_base.specs.declared.numbers.Point.{Point}
use Rattle.plum_base.specs.declared.numbers.Tenths.{Tenths}
use Rattle.plum_base.specs.Levels.{IsFactor}
use Rattle.plum_base.specs.Sites.{IsPlace}
use Rattle.plum_geo.specs.Prediction.{corrected, is_near, IsAtMost}
use Rattle.plum_geo.specs.Square.{LiesAs}
use Rattle.plum_geo.specs.declared.square.Place.{Place}
use Rattle.plum_geo.specs.declared.square.Place.TheVariants.{Inside, Outside, Cut}
use Rattle.plum_geo.specs.declared.square.Square.{Square}
use Rattle.plum_geo.specs.Shown.{value_in}
use Rattle.plum_pyramid.specs.declared.layout.Member.{Member}

-- what a station says: its value less its factor; none where it has none
abbrev pub said : List (Option Tenths) → Member → Option Tenths
said values m =
    option_map (λ value. record { 0 = corrected m.site value }) (value_in values m.number.0)

-- what it says at a place: none where it is not near
abbrev pub said_at : List (Option Tenths) → Point → Member → Option Tenths
said_at values place m = if is_near m.site.at place then said values m else None

-- The greatest of what is said by those from position a up to b, without b: it is at least what
-- each of them says, and one of them says it; none where none of them says anything.
pub record IsGreatest (says : Member → Option Tenths) (members : List Member) (a b : ℕ)
    (greatest : Option Tenths) : Type 0 where
  pub covers : (p : ℕ) (m : Member) → a ≤ p → p < b → slice_get members p ≡ Some m
      → IsAtMost (says m) greatest
  pub one : IfSome greatest (λ t. (p : ℕ) × (m : Member) × (a ≤ p) × (p < b)
      × (slice_get members p ≡ Some m) × (says m ≡ Some t))

-- What a station can say, by numbers of stations that have values: it has a number there, it stands
-- on the grid, and its factor is in its range.
pub record CanSay (values : List (Option Tenths)) (m : Member) : Type 0 where
  pub listed : m.number.0 < length values
  pub place : IsPlace m.site.at
  pub factor : IsFactor m.site.factor

-- What is to be done with a square whose stations say this at most, where this is the best so far:
-- one that is inside has its maximum taken, one whose maximum is not above the best is left as one
-- that is outside, and one that is cut is opened.
abbrev pub IsAnswer : Square → Point → Option Tenths → Option Tenths → Place → Type 0
IsAnswer square place greatest best Inside = LiesAs square place Inside
IsAnswer square place greatest best Outside =
    IsAtMost greatest best ⊎ LiesAs square place Outside
IsAnswer square place greatest best Cut = Unit {0}
