use Rattle.plum_scale.proofs.Order.{rise_together}
use Rattle.plum_scale.proofs.laws.classes_rise_with_intensities.Goals as goal

pub returns : goal.returns
returns c = rise_together
