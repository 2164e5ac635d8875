-- Counts of faults.
use Rattle.std.specs.Prelude.{◌≡◌, ℕ}
use Rattle.plum_base.specs.Counting.{one_more}

-- One fault was counted.
abbrev pub HasRisen : ℕ → ℕ → Type 0
HasRisen before now = now ≡ one_more before
