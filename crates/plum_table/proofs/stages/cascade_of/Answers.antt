use Rattle.plum_table.proofs.Cascades.{is_cascade}
use Rattle.plum_table.proofs.stages.cascade_of.Goals as goal

pub unwrap-requires : goal.unwrap-requires
unwrap-requires c =
    is_cascade c.new.result c.args.stages.items c.new.ensures.fault c.requires.some c.requires.range
