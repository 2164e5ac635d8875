use Rattle.std.proofs.Common.{◌≡◌, map}
use Rattle.plum_replay.specs.Pieces.{session_in}
use Rattle.plum_replay.proofs.round.watches_of.Given as goal

abbrev pub invariant-loop-session : goal.invariant-loop-session
invariant-loop-session l = map session_in l.watches.items ≡ l.yielded
