-- Thresholds that are filled up to the length of the longest table.
use Rattle.std.specs.Prelude.{◌≡◌, ℕ, ◌<◌, List, length}
use Rattle.std.specs.List.Sorted.{IsNonDecreasing}
use Rattle.plum_base.specs.Levels.{MOST_LEVELS}

-- As many as the longest table has, that do not fall; the table's last is one of them.
pub record IsFilled (filled : List ℕ) (last : ℕ) : Type 0 where
  pub places : length filled ≡ MOST_LEVELS
  pub listed : last < MOST_LEVELS
  pub order : IsNonDecreasing filled
