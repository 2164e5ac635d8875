use Rattle.std.proofs.Common.{[]}
use Rattle.plum_packet.proofs.Counted.{sums, all, goes_on}
use Rattle.plum_packet.proofs.counts.bodies_are_counted.Goals as goal

pub returns-clause-sums : goal.returns-clause-sums
returns-clause-sums c = sums []

pub returns-clause-all : goal.returns-clause-all
returns-clause-all c = all []

pub returns-clause-goes_on : goal.returns-clause-goes_on
returns-clause-goes_on c = goes_on []
