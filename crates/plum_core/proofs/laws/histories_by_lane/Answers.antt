use Rattle.plum_core.proofs.ByLane.{packets_by_lane, kept_of_lane, kept_is_by_lane}
use Rattle.plum_core.proofs.Counted.{lanes_counted}
use Rattle.plum_core.proofs.laws.histories_by_lane.Goals as goal

pub returns-clause-kept : goal.returns-clause-kept
returns-clause-kept c =
    let law = c.kept_packets.ensures in kept_of_lane law.joins law.leaves law.parts

pub returns-clause-packets : goal.returns-clause-packets
returns-clause-packets c = packets_by_lane

pub returns-clause-whole : goal.returns-clause-whole
returns-clause-whole c =
    let law = c.kept_packets.ensures in kept_is_by_lane law.joins law.leaves law.parts

pub returns-clause-counted : goal.returns-clause-counted
returns-clause-counted c = lanes_counted
