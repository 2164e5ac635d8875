use Rattle.plum_trials_lanes.specs.AtWork.{StaysGather}
use Rattle.plum_trials_lanes.proofs.rounds.feed.Given as goal

abbrev pub invariant-loop : goal.invariant-loop
invariant-loop g l = StaysGather l.initial.gather l.gather
