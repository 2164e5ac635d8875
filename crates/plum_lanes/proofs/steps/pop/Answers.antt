use Rattle.plum_lanes.proofs.Gathering.{gets, learns}
use Rattle.plum_lanes.proofs.Views.{known_basis}
use Rattle.plum_lanes.proofs.steps.pop.Goals as goal

pub pop_as-requires-clause-rule : goal.pop_as-requires-clause-rule
pop_as-requires-clause-rule g c =
    let k = known_basis _ c.requires.2 in (
      gets _ k.0 _ c.requires.1 k.1 c.histories.ensures.valid,
      learns _ k.0 _ c.requires.1 k.1,
    )
