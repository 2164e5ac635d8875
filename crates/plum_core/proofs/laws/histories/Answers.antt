use Rattle.plum_core.proofs.GoingOn.{kept_part}
use Rattle.plum_core.proofs.OneHistory.{history_begins}
use Rattle.plum_core.proofs.laws.histories.Goals as goal

pub returns-clause-part : goal.returns-clause-part
returns-clause-part c = kept_part c.kept_packets.ensures.parts

pub returns-clause-begins : goal.returns-clause-begins
returns-clause-begins c = history_begins c.kept_packets.ensures.parts c.one_value.ensures.only
