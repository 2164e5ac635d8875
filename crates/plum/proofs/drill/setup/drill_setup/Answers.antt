use Rattle.plum.proofs.Table.{no_fault, no_level_fault}
use Rattle.plum.proofs.drill.setup.drill_setup.Goals as goal

pub unwrap-requires-2 : goal.unwrap-requires-2
unwrap-requires-2 c =
    no_fault c.new-2.result
    (rw c.drill_thresholds.ensures at c.new-2.ensures.fault) no_level_fault
