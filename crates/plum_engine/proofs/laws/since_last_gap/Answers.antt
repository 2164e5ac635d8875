use Rattle.plum_engine.proofs.Gaps.{since_gap-is, since_gap-all, each_splits}
use Rattle.plum_engine.proofs.laws.since_last_gap.Goals as goal

pub returns-clause-gap : goal.returns-clause-gap
returns-clause-gap c = since_gap-is

pub returns-clause-no_gap : goal.returns-clause-no_gap
returns-clause-no_gap c = since_gap-all

pub returns-clause-either : goal.returns-clause-either
returns-clause-either c = each_splits
