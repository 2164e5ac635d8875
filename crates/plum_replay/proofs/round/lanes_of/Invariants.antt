use Rattle.std.proofs.Common.{◌≡◌, map}
use Rattle.plum_replay.specs.Pieces.{lane_in}
use Rattle.plum_replay.proofs.round.lanes_of.Given as goal

abbrev pub invariant-loop-share : goal.invariant-loop-share
invariant-loop-share l = l.lanes.items ≡ map lane_in l.yielded
