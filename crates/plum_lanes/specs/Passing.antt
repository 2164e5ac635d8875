-- Lanes whose passes come and go, one after another: for the steps within a call.
use Rattle.std.specs.Prelude.{◌≡◌, ℕ, ◌<◌, List, [], length, slice_index_or, None}
use Rattle.plum_lanes.specs.declared.gatherer.Gather.{Gather}
use Rattle.plum_lanes.specs.declared.lanes.Lane.{Lane}
use Rattle.plum_lanes.specs.Gathering.{gathered, settled_of, out_of, IsGatherOf}
use Rattle.plum_lanes.specs.Lanes.{sent, waiting_in, kept_by, repeats_of, BelongsTo, HasTaken}
use Rattle.plum_lanes.specs.Opening.{Opening}

-- Nothing waits in the lane, and it has sent and counted nothing.
pub record IsIdle (lane : Lane) : Type 0 where
  pub free : waiting_in lane ≡ None
  pub none_sent : sent lane ≡ []
  pub none_kept : kept_by lane ≡ 0
  pub none_repeated : repeats_of lane ≡ 0

-- The gatherer has gathered and learned nothing, and so many lanes have their passes.
pub record IsNewGather (opening : Opening) (out : ℕ) (gather : Gather) : Type 0 where
  pub gather_of : IsGatherOf opening gather
  pub out_is : out_of gather ≡ out
  pub none_gathered : gathered gather ≡ []
  pub none_settled : settled_of gather ≡ []

-- These are the first lanes of the opening, so many of them, and its gatherer, and nothing happened
-- yet.
pub record AreNewUpTo (opening : Opening) (count : ℕ) (lanes : List Lane) (gather : Gather)
    : Type 0 where
  pub long : length lanes ≡ count
  pub gather_is : IsNewGather opening count gather
  pub each : (i : ℕ) (d : Lane) → i < length lanes
      → let lane = slice_index_or lanes i d in HasTaken opening i [] lane × IsIdle lane

-- These belong to the opening, in order, whatever their passes.
abbrev pub AllBelong : Opening → List Lane → Type 0
AllBelong opening lanes =
    (i : ℕ) (d : Lane) → i < length lanes → BelongsTo opening i (slice_index_or lanes i d)

-- The lane's pass may be another. The rest is as it was.
pub record IsSameBut (before after : Lane) : Type 0 where
  pub ring : after.ring ≡ before.ring
  pub number : after.number ≡ before.number
  pub lanes : after.lanes ≡ before.lanes
  pub stations : after.stations ≡ before.stations
  pub waiting : after.waiting ≡ before.waiting
  pub kept : after.kept ≡ before.kept
  pub repeats : after.repeats ≡ before.repeats

-- It is the gatherer of the same opening, and gathered the same.
pub record IsSameGather (before after : Gather) : Type 0 where
  pub gather_of : (opening : Opening) → IsGatherOf opening before → IsGatherOf opening after
  pub gathered : gathered after ≡ gathered before
