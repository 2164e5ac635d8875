use Rattle.plum_trials_lanes.proofs.Working.{IsSomeLane-stays}
use Rattle.plum_trials_lanes.proofs.rounds.send.Goals as goal

pub offer-requires : goal.offer-requires
offer-requires g c = record { lane = IsSomeLane-stays _ _ _ _ _ c.requires.lane c.loop.invariant }
