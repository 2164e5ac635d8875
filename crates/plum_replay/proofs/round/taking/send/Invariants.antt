use Rattle.std.proofs.Common.{IsSome}
use Rattle.plum_lanes.specs.Lanes.{waiting_in, KeepsTaken}
use Rattle.plum_replay.proofs.round.taking.send.Given as goal

abbrev pub invariant-loop : goal.invariant-loop
invariant-loop g l = record {
  waits : IsSome (waiting_in l.lane);
  taken : KeepsTaken l.initial.lane l.lane;
}
