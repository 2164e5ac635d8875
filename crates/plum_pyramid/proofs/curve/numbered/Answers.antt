use Rattle.std.proofs.Common.{arith}
use Rattle.plum_pyramid.proofs.Orders.{AreMembers-numbered}
use Rattle.plum_pyramid.proofs.curve.numbered.Goals as goal

pub returns : goal.returns
returns c =
    let count = c.loop-n.invariant.count in
    AreMembers-numbered c.args.stations.now c.loop-n.members.items c.requires (omega arith)
    (λ k m below. c.loop-n.invariant.each k m (omega arith))
