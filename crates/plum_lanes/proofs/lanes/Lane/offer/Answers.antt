use Rattle.std.proofs.Common.{ap}
use Rattle.crossbeam_queue.specs.Passes.{ruled_capacity}
use Rattle.plum_lanes.proofs.Sent.{was_full}
use Rattle.plum_lanes.proofs.lanes.Lane.offer.Goals as goal

pub returns-in-Err-clause-busy : goal.returns-in-Err-clause-busy
returns-in-Err-clause-busy g c = λ opening number is.
    was_full opening number c.args.self.now is _ (ap ruled_capacity c.deref.ensures)
    c.in-Err.ensures.sent.2
