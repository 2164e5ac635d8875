use Rattle.plum_packet.proofs.Captures.{exist, only, tail, fronts}
use Rattle.plum_packet.proofs.capture.bytes_are_one_capture.Goals as goal

pub returns-clause-exist : goal.returns-clause-exist
returns-clause-exist c = exist

pub returns-clause-only : goal.returns-clause-only
returns-clause-only c = only

pub returns-clause-tail : goal.returns-clause-tail
returns-clause-tail c = tail

pub returns-clause-fronts : goal.returns-clause-fronts
returns-clause-fronts c = fronts
