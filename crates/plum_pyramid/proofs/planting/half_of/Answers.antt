use Rattle.std.proofs.Common.{arith}
use Rattle.std.proofs.lemmas.Int.{ints}
use Rattle.plum_pyramid.proofs.planting.half_of.Goals as goal

pub returns : goal.returns
returns c = record {
  half = (omega (arith, ints), omega (arith, ints), omega (arith, ints));
  smaller = omega (arith, ints);
}
