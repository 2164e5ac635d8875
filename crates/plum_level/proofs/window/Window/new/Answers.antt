use Rattle.std.proofs.Common.{refl}
use Rattle.plum_level.proofs.Windows.{IsWindow-none}
use Rattle.plum_level.proofs.window.Window.new.Goals as goal

pub invariant_of-result : goal.invariant_of-result
invariant_of-result c =
    let table = c.new.ensures.table in
    rw (c.in_ok-with_capacity.ensures, c.new.ensures.value) (
      refl,
      IsWindow-none _ _ table.thresholds c.new-2.ensures.counts c.new-2.ensures.settled,
    )
