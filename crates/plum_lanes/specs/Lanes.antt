-- A lane, as its callers know it (the project's own).
use Rattle.std.specs.Prelude.{◌≡◌, ℕ, ◌+◌, ◌/◌, ◌<◌, true, List, ◌++◌, length, sum_by, ⊤}
use Rattle.std.specs.Prelude.{slice_index_or, Option, Some, None, IsSome}
use Rattle.std.specs.Arc.{arc_value}
use Rattle.std.specs.Option.{option_to_list}
use Rattle.crossbeam_queue.specs.Passes.{view, IsPassOf, ruled_capacity}
use Rattle.plum_base.specs.declared.entry.Entry.{Entry}
use Rattle.plum_base.specs.declared.lane.Offered.{Offered}
use Rattle.plum_base.specs.declared.lane.Offered.TheVariants.{Sent, Busy}
use Rattle.plum_base.specs.declared.lane.Took.{Took}
use Rattle.plum_base.specs.declared.lane.Took.TheVariants.{Ready, Repeat}
use Rattle.plum_base.specs.declared.packet.Packet.{Packet}
use Rattle.plum_base.specs.Lane.{lane_of}
use Rattle.plum_seq.specs.Keys.{kept}
use Rattle.plum_core.specs.declared.station.Station.{Station}
use Rattle.plum_core.specs.Facts.{IsInLaneOrder, IsBacklog}
use Rattle.plum_core.specs.History.{IsValidHistory}
use Rattle.plum_core.specs.Station.{Stands, IsTold}
use Rattle.plum_lanes.specs.declared.lanes.Lane.{Lane}
use Rattle.plum_lanes.specs.declared.rule.Basis.{Basis}
use Rattle.plum_lanes.specs.Opening.{Opening}

-- what the lane sent since the opening, in order
abbrev pub sent : Lane → List Entry
sent lane = (view lane.pass).sent

-- the entry that waits in it to be sent, if one does
abbrev pub waiting_in : Lane → Option Entry
waiting_in lane = lane.waiting

-- how many packets it kept, and how many it told as repeats
abbrev pub kept_by : Lane → ℕ
kept_by lane = lane.kept

abbrev pub repeats_of : Lane → ℕ
repeats_of lane = lane.repeats

-- ---- which lane it is

-- It is of this opening and has this number, whatever its pass.
pub record BelongsTo (opening : Opening) (number : ℕ) (lane : Lane) : Type 0 where
  pub ring : (arc_value lane.ring).table.shared.table_id ≡ opening.ring
  pub capacity : ruled_capacity (arc_value lane.ring) ≡ opening.basis.setup.queue
  pub number_is : lane.number.0 ≡ number
  pub lanes : lane.lanes ≡ opening.basis.setup.lanes

-- It is the lane of this number of this opening.
pub record IsLane (opening : Opening) (number : ℕ) (lane : Lane) : Type 0 where
  pub belongs : BelongsTo opening number lane
  pub pass : IsPassOf (arc_value lane.ring) lane.pass
  pub sends : (view lane.pass).sends ≡ true
  pub sends_as : (view lane.pass).lane ≡ number
  pub basis_is : (view lane.pass).basis ≡ Some opening.basis

-- ---- what it took

-- Each station of the lane was given its packets of these. Station s stands at position s / lanes.
abbrev pub StandForTaken : Basis → ℕ → List Packet → List Station → Type 0
StandForTaken basis number taken stations =
    (s : ℕ) → s < basis.stations → lane_of basis.setup.lanes s ≡ number
    → (s / basis.setup.lanes < length stations)
    × ((d : Station)
    → Stands (slice_index_or stations (s / basis.setup.lanes) d) basis.setup s taken)

-- It is the lane of this number of this opening, and took these packets since then. It keeps its
-- backlog, and has counted them.
pub record HasTaken (opening : Opening) (number : ℕ) (taken : List Packet) (lane : Lane)
    : Type 0 where
  pub is_lane : IsLane opening number lane
  pub stand : StandForTaken opening.basis number taken lane.stations.items
  pub backlog : IsBacklog opening.basis.setup opening.basis.stations number taken
      (waiting_in lane) (sent lane)
  pub kept_is : kept_by lane ≡ length (kept taken)
  pub counted : kept_by lane + repeats_of lane ≡ length taken

-- Whatever packets it took, as whichever lane, it has taken them still, and no others.
abbrev pub KeepsTaken : Lane → Lane → Type 0
KeepsTaken before after = (opening : Opening) (number : ℕ) (taken : List Packet)
    → HasTaken opening number taken before → HasTaken opening number taken after

-- The packet is of a listed station of the lane of this number.
abbrev pub IsForLane : Opening → ℕ → Packet → Type 0
IsForLane opening number p =
    (p.station.0 < opening.basis.stations)
    × (lane_of opening.basis.setup.lanes p.station.0 ≡ number)

-- What a lane tells of a packet after these: a kept packet's entry waits; after a repeat nothing
-- does.
abbrev pub Tells : List Packet → Packet → Took → Lane → Type 0
Tells taken p Ready after = IsTold taken p Ready × IsSome (waiting_in after)
Tells taken p (Repeat last) after = IsTold taken p (Repeat last) × (waiting_in after ≡ None)

-- It counts a kept packet, or a repeat, and no more.
abbrev pub Counts : Lane → Took → Lane → Type 0
Counts before Ready after =
    (kept_by after ≡ kept_by before + 1) × (repeats_of after ≡ repeats_of before)
Counts before (Repeat last) after =
    (kept_by after ≡ kept_by before) × (repeats_of after ≡ repeats_of before + 1)

-- ---- what it offers

-- What an offer does: the entry that waited is sent, and no other; or nothing is, and it waits on.
abbrev pub Offers : Lane → Offered → Lane → Type 0
Offers before Sent after =
    (sent after ≡ sent before ++ option_to_list (waiting_in before)) × (waiting_in after ≡ None)
Offers before Busy after =
    (sent after ≡ sent before) × (waiting_in after ≡ waiting_in before)

-- what is said of a lane that was told to be busy
abbrev pub IfBusy : Offered → Type 0 → Type 0
IfBusy Sent fact = ⊤
IfBusy Busy fact = fact

-- There is a queue that holds its bound, behind some gathered entries: both together are a valid
-- history, and what the lane sent is its entries there. No statement can name what a shared queue
-- held at a moment, so this says no more than that there is such a one.
pub record WasFull (opening : Opening) (number : ℕ) (lane : Lane) : Type 0 where
  pub gathered_then : List Entry
  pub queued_then : List Entry
  pub full : length queued_then ≡ opening.basis.setup.queue
  pub in_order : IsInLaneOrder number (sent lane) (gathered_then ++ queued_then)
  pub valid : IsValidHistory opening.basis.setup opening.basis.stations
      (gathered_then ++ queued_then)

-- ---- several lanes

-- These are all the lanes of the opening, each once and in order.
pub record AreLanes (opening : Opening) (lanes : List Lane) : Type 0 where
  pub all : length lanes ≡ opening.basis.setup.lanes
  pub each : (i : ℕ) (d : Lane) → i < length lanes → IsLane opening i (slice_index_or lanes i d)

-- Each of them took these packets, by its number.
abbrev pub HaveTaken : Opening → (ℕ → List Packet) → List Lane → Type 0
HaveTaken opening taken lanes =
    (i : ℕ) (d : Lane) → i < length lanes
    → HasTaken opening i (taken i) (slice_index_or lanes i d)

-- Nothing waits in any of them.
abbrev pub AreFree : List Lane → Type 0
AreFree lanes =
    (i : ℕ) (d : Lane) → i < length lanes → waiting_in (slice_index_or lanes i d) ≡ None

-- how many entries they sent together
abbrev pub all_sent : List Lane → ℕ
all_sent lanes = sum_by (λ lane. length (sent lane)) lanes
