use Rattle.std.proofs.Common.{arith}
use Rattle.std.proofs.Math.Nat.{mul-le-mul}
use Rattle.plum_geo.proofs.distance.near.Goals as goal

-- each square is at most that of the grid's width
pub overflow_add-result : goal.overflow_add-result
overflow_add-result c =
    omega (
      arith,
      mul-le-mul c.apart-dx.ensures.bound c.apart-dx.ensures.bound,
      mul-le-mul c.apart-dy.ensures.bound c.apart-dy.ensures.bound,
    )
