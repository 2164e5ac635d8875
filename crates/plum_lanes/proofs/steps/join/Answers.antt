use Rattle.plum_lanes.proofs.Leaving.{joins}
use Rattle.plum_lanes.proofs.Views.{known_basis}
use Rattle.plum_lanes.proofs.steps.join.Goals as goal

pub absorb-requires-clause-rule : goal.absorb-requires-clause-rule
absorb-requires-clause-rule c =
    let k = known_basis _ c.requires.gather.2 in
    joins _ k.0 _ c.requires.gather.1 k.1 _ _ c.requires.lane.1 c.requires.last
