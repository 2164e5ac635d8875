use Rattle.std.proofs.Common.{arith}
use Rattle.std.proofs.lemmas.Int.{ints}
use Rattle.plum_pyramid.proofs.planting.half_from.Goals as goal

pub returns-else-z-from-clause-stretch : goal.returns-else-z-from-clause-stretch
returns-else-z-from-clause-stretch c = (
  omega (arith, ints),
  (omega (arith, ints), omega (arith, ints)),
  (omega (arith, ints), omega (arith, ints)),
)

pub returns-else-z-from-clause-along : goal.returns-else-z-from-clause-along
returns-else-z-from-clause-along c = (omega (arith, ints), omega (arith, ints))
