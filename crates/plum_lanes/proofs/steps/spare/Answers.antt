use Rattle.plum_lanes.proofs.Leaving.{spares}
use Rattle.plum_lanes.proofs.Views.{known_basis}
use Rattle.plum_lanes.proofs.steps.spare.Goals as goal

pub another-requires-clause-rule : goal.another-requires-clause-rule
another-requires-clause-rule c =
    let k = known_basis _ c.requires.2 in
    spares _ k.0 _ k.1
