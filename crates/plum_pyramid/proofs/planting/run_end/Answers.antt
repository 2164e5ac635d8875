use Rattle.std.proofs.Common.{arith}
use Rattle.plum_pyramid.proofs.Holding.{AreHeld-more}
use Rattle.plum_pyramid.proofs.planting.run_end.Goals as goal

pub loop-p-preserved : goal.loop-p-preserved
loop-p-preserved c = record {
  above = omega arith;
  bound = omega arith;
  held =
      AreHeld-more c.args.members.now c.args.square c.args.first c.loop-p.p
      c.loop-p.invariant.held (c.holds.ensures.0 c.if-holds.true);
}
