use Rattle.plum_lanes.proofs.Gathering.{learns}
use Rattle.plum_lanes.proofs.closing.look.Goals as goal

pub learn_as-requires-clause-rule : goal.learn_as-requires-clause-rule
learn_as-requires-clause-rule c =
    learns _ c.requires.0.basis _ c.requires.1.gathers c.requires.1.basis_is
