use Rattle.plum_trials_lanes.specs.AtWork.{StaysAtWork}
use Rattle.plum_trials_lanes.proofs.rounds.work.Given as goal

abbrev pub invariant-loop-station : goal.invariant-loop-station
invariant-loop-station g l =
    StaysAtWork l.load.stations l.load.lanes l.number l.fn.lane l.lane

abbrev pub invariant-loop-n : goal.invariant-loop-n
invariant-loop-n g l = StaysAtWork l.load.stations l.load.lanes l.number l.initial.lane l.lane
