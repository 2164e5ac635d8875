use Rattle.plum_trials_lanes.proofs.Working.{IsSomeLane-stays}
use Rattle.plum_trials_lanes.proofs.rounds.hand.Goals as goal

pub send-requires : goal.send-requires
send-requires g c = record {
  lane = IsSomeLane-stays _ _ _ _ _ c.requires.lane c.take.ensures;
}
