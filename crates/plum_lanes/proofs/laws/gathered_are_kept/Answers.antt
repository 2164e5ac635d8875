use Rattle.plum_lanes.proofs.Kept.{gathered_kept}
use Rattle.plum_lanes.proofs.laws.gathered_are_kept.Goals as goal

pub returns : goal.returns
returns c = gathered_kept
