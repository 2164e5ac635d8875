use Rattle.plum_level.proofs.Filling.{IsFilled-table}
use Rattle.plum_level.proofs.thresholds.Thresholds.new.Goals as goal

pub invariant_of-result : goal.invariant_of-result
invariant_of-result c =
    let given = c.thresholds-thresholds.ensures in
    rw (c.copy_from_slice.ensures.after, given.value) (IsFilled-table _ given.table)
