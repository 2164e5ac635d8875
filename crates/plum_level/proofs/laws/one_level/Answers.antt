use Rattle.plum_level.proofs.OneLevel.{level_of-only, level_of-is}
use Rattle.plum_level.proofs.laws.one_level.Goals as goal

pub returns : goal.returns
returns c = record { only = level_of-only; is = level_of-is }
