use Rattle.plum_engine.proofs.Bounds.{amplitudes_of-bounded}
use Rattle.plum_engine.proofs.ByIndex.{length-amplitudes_of, amplitudes_of-at}
use Rattle.plum_engine.proofs.laws.amplitudes.Goals as goal

pub returns-clause-as_many : goal.returns-clause-as_many
returns-clause-as_many c = length-amplitudes_of

pub returns-clause-each : goal.returns-clause-each
returns-clause-each c = amplitudes_of-at

pub returns-clause-bounded : goal.returns-clause-bounded
returns-clause-bounded c = amplitudes_of-bounded c.one_output.ensures.is
