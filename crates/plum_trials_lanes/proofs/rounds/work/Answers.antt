use Rattle.plum_trials_lanes.proofs.Working.{IsSomeLane-stays}
use Rattle.plum_trials_lanes.proofs.rounds.work.Goals as goal

pub hand-requires-clause-lane : goal.hand-requires-clause-lane
hand-requires-clause-lane g c = IsSomeLane-stays _ _ _ _ _ c.requires.lane c.loop-station.invariant

pub loop-station-preserved : goal.loop-station-preserved
loop-station-preserved g c = λ opening shape work.
    c.hand.ensures opening shape (c.loop-station.invariant opening shape work)
