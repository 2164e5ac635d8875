use Rattle.plum_base.proofs.Areas.{same_areas, more_areas}
use Rattle.plum_base.proofs.laws.areas_come_in_order.Goals as goal

pub returns-clause-known : goal.returns-clause-known
returns-clause-known c = same_areas

pub returns-clause-other : goal.returns-clause-other
returns-clause-other c = more_areas
