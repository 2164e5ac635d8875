-- Bounds of numbers, both included.
use Rattle.std.specs.Prelude.{ℕ, ◌≤◌, ℤ, pos, neg_ℤ, ◌≤ℤ◌}
use Rattle.plum_base.specs.declared.bounds.Bounds.{Bounds}

-- from the low bound to the high one
abbrev pub IsWithin : Bounds → ℕ → Type 0
IsWithin bounds n = (bounds.low ≤ n) × (n ≤ bounds.high)

-- from the negative of this to this
abbrev pub IsUpTo : ℕ → ℤ → Type 0
IsUpTo end z = (neg_ℤ (pos end) ≤ℤ z) × (z ≤ℤ pos end)
