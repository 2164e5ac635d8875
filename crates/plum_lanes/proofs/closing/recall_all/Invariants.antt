use Rattle.std.proofs.Common.{◌≡◌, ℕ, ◌<◌, ◌≤◌, length, slice_index_or}
use Rattle.plum_lanes.specs.declared.lanes.Lane.{Lane}
use Rattle.plum_lanes.specs.Rule.{settled_at}
use Rattle.plum_lanes.specs.Lanes.{sent}
use Rattle.plum_lanes.specs.Gathering.{settled_of, out_of}
use Rattle.plum_lanes.specs.Passing.{IsSameGather, IsSameBut}
use Rattle.plum_lanes.proofs.closing.recall_all.Given as goal

abbrev pub invariant-loop-left : goal.invariant-loop-left
invariant-loop-left l = record {
  long : length l.lanes ≡ length l.initial.lanes;
  bound : l.left ≤ length l.initial.lanes;
  gather : IsSameGather l.initial.gather l.gather;
  out : out_of l.gather ≡ l.left;
  below : (i : ℕ) (d : Lane) → i < l.left
      → slice_index_or l.lanes i d ≡ slice_index_or l.initial.lanes i d;
  above : (i : ℕ) (d : Lane) → l.left ≤ i → i < length l.initial.lanes
      → settled_at (settled_of l.gather) i ≡ sent (slice_index_or l.initial.lanes i d);
  same : (i : ℕ) (d : Lane) → i < length l.initial.lanes
      → IsSameBut (slice_index_or l.initial.lanes i d) (slice_index_or l.lanes i d);
}

abbrev pub decreases-loop-left : goal.decreases-loop-left
decreases-loop-left l = l.left
