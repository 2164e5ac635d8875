-- What stations show, kept by their numbers.
use Rattle.std.specs.Prelude.{◌≡◌, ℕ, if◌then◌else◌, List, [], ◌∷◌, ◌++◌, length, slice_index_or}
use Rattle.std.specs.Prelude.{slice_set, Option, None}
use Rattle.plum_base.specs.declared.entry.Entry.{Entry}
use Rattle.plum_base.specs.declared.numbers.Tenths.{Tenths}
use Rattle.plum_geo.specs.Prediction.{none_or_on_scale, shown}

-- what the n-th station shows, from 0, by a list of what each shows; none where there is none
abbrev pub value_in : List (Option Tenths) → ℕ → Option Tenths
value_in values n = slice_index_or values n None

-- These are what so many stations show after these entries.
pub record AreShown (values : List (Option Tenths)) (stations : ℕ) (entries : List Entry)
    : Type 0 where
  pub count : length values ≡ stations
  pub each : (n : ℕ) → value_in values n ≡ shown stations entries n

-- what stations show after an entry more: its station, where it is one of them, shows its value,
-- where that is none or on the scale
abbrev pub shown_after : List (Option Tenths) → Entry → List (Option Tenths)
shown_after values entry =
    if none_or_on_scale entry.value then slice_set values entry.station.0 entry.value else values

-- What stations show after some entries, and an entry more: it is what they show after all of them.
abbrev pub ShowsOneMore : Type 0
ShowsOneMore = (values : List (Option Tenths)) (stations : ℕ) (entries : List Entry)
    (entry : Entry) → AreShown values stations entries
    → AreShown (shown_after values entry) stations (entries ++ entry ∷ [])
