use Rattle.std.proofs.Common.{length}
use Rattle.plum_core.specs.Transcript.{of_lane}
use Rattle.plum_replay.specs.Pieces.{AreShares}
use Rattle.plum_replay.proofs.round.share_out.Given as goal

abbrev pub invariant-loop-packet : goal.invariant-loop-packet
invariant-loop-packet l =
    let lanes = l.fn.lanes.items in
    AreShares lanes (λ i. of_lane (length lanes) i l.yielded) l.shares.items
