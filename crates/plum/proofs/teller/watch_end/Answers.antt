use Rattle.std.proofs.Common.{rules}
use Rattle.plum.proofs.Tellings.{watch_ends}
use Rattle.plum.proofs.teller.watch_end.Goals as goal

pub returns : goal.returns
returns c = λ count tail. watch_ends c.args.watch.now _ count tail (search rules)
