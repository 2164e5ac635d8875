use Rattle.plum_engine.proofs.Values.{value_of-only, value_of-is}
use Rattle.plum_engine.proofs.laws.one_value.Goals as goal

pub returns-clause-only : goal.returns-clause-only
returns-clause-only c = value_of-only c.one_level.ensures.only

pub returns-clause-is : goal.returns-clause-is
returns-clause-is c = value_of-is c.one_level.ensures.is
