use Rattle.std.proofs.lemmas.List.{take_more}
use Rattle.plum_core.proofs.area.shown_in.Goals as goal

pub loop-entry-preserved : goal.loop-entry-preserved
loop-entry-preserved c =
    let history = c.args.history.now in
    let entry = c.entry-item.result in
    rw (take_more history c.loop-entry.entry-index entry c.loop-entry-test.true, ← c.entry-item.is)
    (c.apply.ensures.shown c.args.stations _ c.loop-entry.invariant)
