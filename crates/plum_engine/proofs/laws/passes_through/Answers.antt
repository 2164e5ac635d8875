use Rattle.plum_engine.proofs.Plain.{amplitudes_of-plain}
use Rattle.plum_engine.proofs.laws.passes_through.Goals as goal

pub returns : goal.returns
returns c = amplitudes_of-plain c.one_output.ensures.only
