-- Lanes and a gatherer at work in a trial.
use Rattle.std.specs.Prelude.{◌≡◌, ℕ, ◌<◌, List, length, slice_index_or}
use Rattle.plum_base.specs.declared.packet.Packet.{Packet}
use Rattle.plum_lanes.specs.declared.gatherer.Gather.{Gather}
use Rattle.plum_lanes.specs.declared.lanes.Lane.{Lane}
use Rattle.plum_lanes.specs.Gathering.{IsGather}
use Rattle.plum_lanes.specs.Lanes.{HasTaken}
use Rattle.plum_lanes.specs.Opening.{Opening}

-- It is an opening of so many stations and lanes.
abbrev pub IsOf : ℕ → ℕ → Opening → Type 0
IsOf stations lanes opening =
    (opening.basis.stations ≡ stations) × (opening.basis.setup.lanes ≡ lanes)

-- The lane of this number of the opening has taken some packets.
pub record IsAtWork (opening : Opening) (number : ℕ) (lane : Lane) : Type 0 where
  pub packets : List Packet
  pub taken : HasTaken opening number packets lane

-- So have all of these, in order.
abbrev pub AreAtWork : Opening → List Lane → Type 0
AreAtWork opening lanes =
    (i : ℕ) (d : Lane) → i < length lanes → IsAtWork opening i (slice_index_or lanes i d)

-- These are all the lanes of an opening of so many stations, and its gatherer.
pub record IsOpen (stations : ℕ) (lanes : List Lane) (gather : Gather) : Type 0 where
  pub opening : Opening
  pub shape : IsOf stations (length lanes) opening
  pub at_work : AreAtWork opening lanes
  pub gather_is : IsGather opening gather

-- Whatever lane of whatever such opening it was, it is that lane still.
abbrev pub StaysAtWork : ℕ → ℕ → ℕ → Lane → Lane → Type 0
StaysAtWork stations lanes number before after =
    (opening : Opening) → IsOf stations lanes opening → IsAtWork opening number before
    → IsAtWork opening number after

-- It is a lane of some such opening.
abbrev pub IsSomeLane : ℕ → ℕ → ℕ → Lane → Type 0
IsSomeLane stations lanes number lane =
    (opening : Opening) × IsOf stations lanes opening × IsAtWork opening number lane

-- It is the gatherer of the same opening still.
pub record StaysGather (before after : Gather) : Type 0 where
  pub stays : (opening : Opening) → IsGather opening before → IsGather opening after

-- These are the lanes of some such opening, in order.
abbrev pub AreSomeLanes : ℕ → ℕ → List Lane → Type 0
AreSomeLanes stations count lanes =
    (i : ℕ) (d : Lane) → i < length lanes
    → IsSomeLane stations count i (slice_index_or lanes i d)

-- Each of these is the lane still that it was.
abbrev pub StayAtWork : ℕ → ℕ → List Lane → List Lane → Type 0
StayAtWork stations count before after =
    (i : ℕ) (d : Lane) → i < length before
    → StaysAtWork stations count i (slice_index_or before i d) (slice_index_or after i d)
