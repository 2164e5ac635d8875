use Rattle.std.proofs.Common.{Ok, ap}
use Rattle.plum_table.proofs.Rising.{first_not_rising-none, first_not_rising-some}
use Rattle.plum_table.proofs.levels.in_order.Goals as goal

pub returns-in-Ok : goal.returns-in-Ok
returns-in-Ok c =
    let table = rw c.in-Ok.ensures.ok.0 at c.in-Ok.ensures.ok.1 in
    rw (first_not_rising-none c.args.thresholds.items table.thresholds.rises)
    (ap Ok c.in-Ok.ensures.ok.0)

pub returns-in-Err-Order : goal.returns-in-Err-Order
returns-in-Err-Order c =
    let fault = rw c.in-Err-Order.field-0-is at c.in-Err-Order.ensures.fault in
    let first = first_not_rising-some c.args.thresholds.items c.in-Err-Order.i fault.2 fault.3
    fault.1 fault.4 in
    rw (first, c.from.ensures)
