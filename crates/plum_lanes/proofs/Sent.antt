-- What a full queue tells a lane.
use Rattle.std.proofs.Common.{◌≡◌, ℕ, ◌++◌, ◌∙◌, subst}
use Rattle.std.specs.Arc.{arc_value}
use Rattle.crossbeam_queue.specs.Fifo.{Held}
use Rattle.crossbeam_queue.specs.Passes.{view, ruled_capacity}
use Rattle.plum_core.specs.Facts.{IsInLaneOrder}
use Rattle.plum_lanes.specs.declared.lanes.Lane.{Lane}
use Rattle.plum_lanes.specs.Rule.{IsSentThen}
use Rattle.plum_lanes.specs.Opening.{Opening}
use Rattle.plum_lanes.specs.Lanes.{IsLane, WasFull, sent}

pub was_full : (opening : Opening) (number : ℕ) (lane : Lane) → IsLane opening number lane
    → (n : ℕ) → n ≡ ruled_capacity (arc_value lane.ring)
    → Held n (IsSentThen (view lane.pass)) → WasFull opening number lane
was_full opening number lane is n n_is held = record {
  gathered_then = held.2.gathered;
  queued_then = held.0;
  full = held.1 ∙ n_is ∙ is.belongs.capacity;
  in_order =
      subst (λ n. IsInLaneOrder n (sent lane) (held.2.gathered ++ held.0)) is.sends_as
      held.2.in_order;
  valid = held.2.valid opening.basis is.basis_is;
}
