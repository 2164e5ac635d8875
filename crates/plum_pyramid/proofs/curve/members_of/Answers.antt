use Rattle.plum_pyramid.proofs.Orders.{AreMembers-permuted}
use Rattle.plum_pyramid.proofs.curve.members_of.Goals as goal

pub returns : goal.returns
returns c =
    AreMembers-permuted c.args.stations.now c.in_ok-members.members.items
    c.sort_by_key.new.self.items c.in_ok-sort_by_key.ensures.permutation c.in_ok-members.ensures
