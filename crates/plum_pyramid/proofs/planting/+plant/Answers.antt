use Rattle.std.proofs.Common.{◌+◌, ◌<◌, length, arith, refl, ◌∙◌}
use Rattle.plum_pyramid.proofs.Growing.{Grows-leaf, Grows-begins, Grows-inner}
use Rattle.plum_pyramid.proofs.Holding.{AreHeld-one, LiesAt-held}
use Rattle.plum_pyramid.proofs.planting.+plant.Goals as goal

pub returns-then-square-le-LEAF_SIDE : goal.returns-then-square-le-LEAF_SIDE
returns-then-square-le-LEAF_SIDE t c =
    let least = c.least_square-square.ensures in
    Grows-leaf c.args.members.now c.args.cells.now.items c.push.new.self.items c.args.first
    c.args.end _ c.in_ok-push.ensures.items (omega arith) least.square refl refl (omega arith)
    (omega arith) least.held

pub quarter_at-quarter-requires-clause-within : goal.quarter_at-quarter-requires-clause-within
quarter_at-quarter-requires-clause-within t c =
    LiesAt-held c.args.members.now c.least_square-square.result c.args.first c.args.end
    c.loop-from.from c.least_square-square.ensures.held c.loop-from.invariant.low
    c.loop-from-test.true (omega arith)

pub run_end-to-requires-clause-begins : goal.run_end-to-requires-clause-begins
run_end-to-requires-clause-begins t c =
    AreHeld-one c.args.members.now c.quarter_at-quarter.result c.loop-from.from
    c.quarter_at-quarter.ensures.within

pub loop-from-preserved : goal.loop-from-preserved
loop-from-preserved t c =
    let so_far = c.loop-from.invariant in
    let grows = c.in_ok-plant.ensures in
    let longer = so_far.longer in
    let rises = grows.longer in
    let here = c.len-here.result in
    record {
      low = omega arith;
      high = omega arith;
      longer = omega arith;
      kept = λ k below.
          let inside : k < length c.loop-from.cells.items = omega arith in
          grows.kept k inside ∙ so_far.kept k below;
      begins =
          Grows-begins c.args.members.now c.loop-from.cells.items c.plant.new.cells.items here
          c.args.first c.loop-from.from c.run_end-to.result longer grows so_far.begins;
      cells = grows.cells (here + 1) so_far.cells;
    }

pub returns : goal.returns
returns t c =
    let least = c.least_square-square.ensures in
    let so_far = c.loop-from.invariant in
    Grows-inner c.args.members.now c.args.cells.now.items c.push.new.self.items
    c.loop-from.cells.items c.args.first c.args.end c.len.result _ c.index_mut.result.now
    c.in_ok-push.ensures.items least.square refl refl (omega arith) (omega arith) (omega arith)
    least.held c.len-here.result c.loop-from.from (omega arith) (omega arith) so_far.longer
    so_far.kept so_far.begins so_far.cells c.index_mut.ensures.value
