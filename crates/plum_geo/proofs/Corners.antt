-- Distances from the distances each way.
use Rattle.std.proofs.Common.{ℕ, ◌+◌, ◌*◌, ◌≤◌, arith}
use Rattle.std.proofs.Math.Nat.{mul-le-mul}

-- what is no nearer each way is no nearer
pub squares-rise : (a b c d : ℕ) → a ≤ b → c ≤ d → a * a + c * c ≤ b * b + d * d
squares-rise a b c d first second =
    omega (arith, mul-le-mul first first, mul-le-mul second second)
