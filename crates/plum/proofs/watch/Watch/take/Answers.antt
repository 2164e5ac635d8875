use Rattle.plum.proofs.Watching.{watched_other}
use Rattle.plum.proofs.watch.Watch.take.Goals as goal

pub returns-else-is_of-clause-takes : goal.returns-else-is_of-clause-takes
returns-else-is_of-clause-takes c = λ setup stations packets history listed has.
    watched_other c.args.self.now setup stations packets history has c.args.packet
    (rw c.if-is_of.false at c.is_of.ensures)
