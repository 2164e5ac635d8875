use Rattle.std.proofs.Common.{arith}
use Rattle.std.proofs.lemmas.Int.{ints}
use Rattle.plum_geo.proofs.square.farthest_along.Goals as goal

pub returns-then-to-from-clause-farthest : goal.returns-then-to-from-clause-farthest
returns-then-to-from-clause-farthest c = λ z along. omega (arith, ints)

pub returns-else-to-from-clause-farthest : goal.returns-else-to-from-clause-farthest
returns-else-to-from-clause-farthest c = λ z along. omega (arith, ints)
