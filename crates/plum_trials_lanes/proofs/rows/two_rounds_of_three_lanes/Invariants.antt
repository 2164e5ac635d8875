use Rattle.plum_trials_lanes.specs.AtWork.{IsOpen}
use Rattle.plum_trials_lanes.proofs.rows.two_rounds_of_three_lanes.Given as goal

abbrev pub invariant-loop-n : goal.invariant-loop-n
invariant-loop-n g l = IsOpen l.opened.stations l.opened.lanes.items l.opened.gather
