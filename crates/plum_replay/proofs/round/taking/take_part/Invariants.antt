use Rattle.std.proofs.Common.{ℕ, length}
use Rattle.plum_replay.specs.Pieces.{TakesPart}
use Rattle.plum_replay.proofs.round.taking.take_part.Given as goal

abbrev pub invariant-packets : goal.invariant-packets
invariant-packets g l = (i : ℕ) → TakesPart i l.initial.share l.share

abbrev pub decreases-packets : goal.decreases-packets
decreases-packets g l = length l.share.packets.items
