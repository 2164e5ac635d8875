use Rattle.plum_filter.proofs.Outputs.{length-cascade_output}
use Rattle.plum_filter.proofs.laws.as_long.Goals as goal

pub returns : goal.returns
returns c = length-cascade_output
