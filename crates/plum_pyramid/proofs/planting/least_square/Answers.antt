use Rattle.std.proofs.Common.{arith}
use Rattle.std.proofs.lemmas.Int.{ints}
use Rattle.plum_pyramid.proofs.Holding.{AreHeld-one, LiesAt-held}
use Rattle.plum_pyramid.proofs.planting.least_square.Goals as goal

pub quarter_at-quarter-requires-clause-within : goal.quarter_at-quarter-requires-clause-within
quarter_at-quarter-requires-clause-within c =
    LiesAt-held c.args.members.now c.loop-least.least c.args.first c.args.end c.args.first
    c.loop-least.invariant.held (omega arith) (omega arith) (omega arith)

pub run_end-requires-clause-begins : goal.run_end-requires-clause-begins
run_end-requires-clause-begins c =
    AreHeld-one c.args.members.now c.quarter_at-quarter.result c.args.first
    c.quarter_at-quarter.ensures.within

pub loop-least-preserved : goal.loop-least-preserved
loop-least-preserved c = record {
  square = c.quarter_at-quarter.ensures.square;
  held = λ p m from to is. c.run_end.ensures.held p m from (omega arith) is;
  side = omega (arith, ints);
}
