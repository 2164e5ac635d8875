-- The gatherer, as its callers know it (the project's own).
use Rattle.std.specs.Prelude.{◌≡◌, ℕ, ◌<◌, true, List, length, slice_index_or, Some}
use Rattle.std.specs.Arc.{arc_value}
use Rattle.crossbeam_queue.specs.Passes.{view, IsPassOf, ruled_capacity}
use Rattle.plum_base.specs.declared.entry.Entry.{Entry}
use Rattle.plum_core.specs.Facts.{IsInLaneOrder}
use Rattle.plum_core.specs.History.{entries_of_lane, IsEachOnce, IsValidHistory}
use Rattle.plum_lanes.specs.declared.gatherer.Gather.{Gather}
use Rattle.plum_lanes.specs.declared.lanes.Lane.{Lane}
use Rattle.plum_lanes.specs.Lanes.{sent}
use Rattle.plum_lanes.specs.Opening.{Opening}
use mathlib.Core.List.{IsPrefix}
use Rattle.plum_lanes.specs.Rule.{settled_at}

-- what it gathered since the opening, in order
abbrev pub gathered : Gather → List Entry
gathered gather = (view gather.pass).gathered

-- what each lane sent, as the gatherer learned it when a round was closed last
abbrev pub settled_of : Gather → List (List Entry)
settled_of gather = (view gather.pass).settled

-- how many lanes have their passes
abbrev pub out_of : Gather → ℕ
out_of gather = (view gather.pass).out

-- It is the gatherer of this opening, however many lanes have their passes.
pub record IsGatherOf (opening : Opening) (gather : Gather) : Type 0 where
  pub ring : (arc_value gather.ring).table.shared.table_id ≡ opening.ring
  pub capacity : ruled_capacity (arc_value gather.ring) ≡ opening.basis.setup.queue
  pub pass : IsPassOf (arc_value gather.ring) gather.pass
  pub gathers : (view gather.pass).gathers ≡ true
  pub basis_is : (view gather.pass).basis ≡ Some opening.basis

-- It is the gatherer of this opening, whose lanes all have their passes. What it gathered is a
-- valid history.
pub record IsGather (opening : Opening) (gather : Gather) : Type 0 where
  pub gather_of : IsGatherOf opening gather
  pub out : out_of gather ≡ opening.basis.setup.lanes
  pub valid : IsValidHistory opening.basis.setup opening.basis.stations (gathered gather)

-- It is the gatherer of the opening of which it was.
abbrev pub KeepsOpening : Gather → Gather → Type 0
KeepsOpening before after =
    (opening : Opening) → IsGather opening before → IsGather opening after

-- The gatherer knows what these lanes sent up to now: a round was closed, and none of them has sent
-- since.
abbrev pub AreSettled : List Lane → Gather → Type 0
AreSettled lanes gather =
    (i : ℕ) (d : Lane) → i < length lanes
    → settled_at (settled_of gather) i ≡ sent (slice_index_or lanes i d)

-- Every entry that these lanes sent is gathered, in the order of its lane, and none is there twice.
pub record HoldsAllSent (lanes : List Lane) (gather : Gather) : Type 0 where
  pub each : (i : ℕ) (d : Lane) → i < length lanes
      → IsPrefix (sent (slice_index_or lanes i d)) (entries_of_lane i (gathered gather))
  pub once : IsEachOnce (gathered gather)

-- The queue was empty at a moment of the call: of what any lanes had sent when a round was closed
-- last, nothing is missing.
abbrev pub FoundEmpty : Gather → Gather → Type 0
FoundEmpty before after =
    (opening : Opening) (lanes : List Lane) → IsGather opening before → AreSettled lanes before
    → HoldsAllSent lanes after

-- What each lane sent is its entries in the gathered list: all of them, and no more.
abbrev pub AreGathered : List Lane → Gather → Type 0
AreGathered lanes gather =
    (i : ℕ) (d : Lane) → i < length lanes
    → IsInLaneOrder i (sent (slice_index_or lanes i d)) (gathered gather)
