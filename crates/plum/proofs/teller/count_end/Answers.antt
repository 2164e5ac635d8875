use Rattle.std.proofs.Common.{rules}
use Rattle.plum.proofs.Tellings.{count_ends}
use Rattle.plum.proofs.teller.count_end.Goals as goal

pub returns : goal.returns
returns c =
    count_ends c.args.tally.now _ c.args.segments c.args.tail c.totals_line.result
    c.totals_line.ensures (search rules)
