use Rattle.std.proofs.Common.{◌≡◌, ℕ, ◌<◌, ◌≤◌, slice_index_or}
use Rattle.plum_lanes.specs.declared.lanes.Lane.{Lane}
use Rattle.plum_lanes.specs.Rule.{settled_at}
use Rattle.plum_lanes.specs.Opening.{Opening}
use Rattle.plum_lanes.specs.Lanes.{BelongsTo, IsLane, sent}
use Rattle.plum_lanes.specs.Gathering.{IsGatherOf, settled_of, out_of}
use Rattle.plum_lanes.specs.Passing.{IsSameGather, IsSameBut}
use Rattle.plum_lanes.proofs.closing.reissue_all.Given as goal

abbrev pub invariant-loop-i : goal.invariant-loop-i
invariant-loop-i l = record {
  gather : IsSameGather l.initial.gather l.gather;
  out : out_of l.gather ≡ l.i;
  settled : settled_of l.gather ≡ settled_of l.initial.gather;
  lane : (i : ℕ) (d : Lane) → i < l.i → (opening : Opening)
      → BelongsTo opening i (slice_index_or l.initial.lanes i d)
      → IsGatherOf opening l.initial.gather → IsLane opening i (slice_index_or l.lanes i d);
  sent : (i : ℕ) (d : Lane) → i < l.i
      → sent (slice_index_or l.lanes i d) ≡ settled_at (settled_of l.initial.gather) i;
  same : (i : ℕ) (d : Lane) → i < l.i
      → IsSameBut (slice_index_or l.initial.lanes i d) (slice_index_or l.lanes i d);
  rest : (i : ℕ) (d : Lane) → l.i ≤ i
      → slice_index_or l.lanes i d ≡ slice_index_or l.initial.lanes i d;
}
