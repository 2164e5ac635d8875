use Rattle.plum.proofs.Tallying.{totals_are}
use Rattle.plum.proofs.tally.Tally.totals_line.Goals as goal

pub returns : goal.returns
returns c = λ stations bodies has. totals_are c.args.self.now stations bodies has c.args.segments
