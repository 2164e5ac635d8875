use Rattle.plum_lanes.proofs.Making.{begins}
use Rattle.plum_lanes.proofs.steps.make.Goals as goal

pub ruled-requires-clause-rule : goal.ruled-requires-clause-rule
ruled-requires-clause-rule c = begins
