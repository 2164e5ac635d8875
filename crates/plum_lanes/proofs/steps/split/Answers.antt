use Rattle.plum_lanes.proofs.Leaving.{leaves}
use Rattle.plum_lanes.proofs.Views.{known_basis}
use Rattle.plum_lanes.proofs.steps.split.Goals as goal

pub another-requires-clause-rule : goal.another-requires-clause-rule
another-requires-clause-rule c =
    let k = known_basis _ c.requires.2 in
    leaves _ k.0 _ c.requires.1 k.1
