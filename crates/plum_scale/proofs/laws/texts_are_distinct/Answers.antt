use Rattle.plum_scale.proofs.Texts.{tenths_text-injective}
use Rattle.plum_scale.proofs.laws.texts_are_distinct.Goals as goal

pub returns-clause-intensity : goal.returns-clause-intensity
returns-clause-intensity c = tenths_text-injective
