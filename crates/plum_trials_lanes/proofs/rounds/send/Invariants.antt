use Rattle.plum_trials_lanes.specs.AtWork.{StaysAtWork}
use Rattle.plum_trials_lanes.proofs.rounds.send.Given as goal

abbrev pub invariant-loop : goal.invariant-loop
invariant-loop g l = StaysAtWork l.stations l.lanes l.number l.initial.lane l.lane
