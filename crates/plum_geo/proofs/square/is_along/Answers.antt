use Rattle.std.proofs.Common.{arith}
use Rattle.std.proofs.lemmas.Int.{ints}
use Rattle.plum_geo.proofs.square.is_along.Goals as goal

pub returns-then-from-z : goal.returns-then-from-z
returns-then-from-z c = grind (arith, ints)
