use Rattle.plum_filter.proofs.Outputs.{stage_output-only, stage_output-is}
use Rattle.plum_filter.proofs.laws.one_output.Goals as goal

pub returns-clause-only : goal.returns-clause-only
returns-clause-only c = stage_output-only

pub returns-clause-is : goal.returns-clause-is
returns-clause-is c = stage_output-is
