use Rattle.std.proofs.Common.{◌≡◌, [], map}
use Rattle.std.specs.Prelude.{All}
use Rattle.plum_replay.specs.Pieces.{lane_in}
use Rattle.plum_replay.proofs.round.shares_of.Given as goal

abbrev pub invariant-loop-lane : goal.invariant-loop-lane
invariant-loop-lane l = record {
  lanes : map lane_in l.shares.items ≡ l.yielded;
  none : All (λ share. share.packets.items ≡ []) l.shares.items;
}
