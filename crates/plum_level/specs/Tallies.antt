-- How many samples have each level, and the greatest level that enough of them have.
use Rattle.std.specs.Prelude.{◌≡◌, ℕ, ◌+◌, ◌-◌, ◌<◌, ◌≤◌, nat_le, List, length, drop, sum}
use Rattle.std.specs.Prelude.{slice_index, slice_set, count_by, Option, Some, None}
use Rattle.plum_base.specs.Levels.{MOST_LEVELS}
use Rattle.plum_level.specs.Level.{ENOUGH}
use Rattle.plum_level.specs.declared.tally.Tally.{Tally}

-- how many samples have this level or a higher one
abbrev pub from_level : List ℕ → ℕ → ℕ
from_level counts k = sum (drop k counts)

-- one sample more of this level
abbrev pub one_sample_more : List ℕ → ℕ → List ℕ
one_sample_more counts level = slice_set counts level (slice_index counts level + 1)

-- one sample less of it
abbrev pub one_sample_less : List ℕ → ℕ → List ℕ
one_sample_less counts level = slice_set counts level (slice_index counts level - 1)

-- a sample of this level came, and one may have left
abbrev pub renewed : List ℕ → Option ℕ → ℕ → List ℕ
renewed counts None came = one_sample_more counts came
renewed counts (Some left) came = one_sample_more (one_sample_less counts left) came

-- The counts are those of these levels: none is past the last that a table can have.
abbrev pub AreCountsOf : List ℕ → List ℕ → Type 0
AreCountsOf counts levels =
    (k : ℕ) → k ≤ MOST_LEVELS → from_level counts k ≡ count_by (λ l. nat_le k l) levels

-- What a tally has as reached is the number of samples of its top level and of those above it.
pub record IsTally (tally : Tally) : Type 0 where
  pub places : length tally.counts ≡ MOST_LEVELS
  pub listed : tally.top < MOST_LEVELS
  pub reached : tally.reached ≡ from_level tally.counts tally.top

-- The top is the greatest level that enough samples have or exceed: 0 where there is none.
pub record IsSettled (tally : Tally) : Type 0 where
  pub tallied : IsTally tally
  pub enough : 0 < tally.top → ENOUGH ≤ from_level tally.counts tally.top
  pub few : from_level tally.counts (tally.top + 1) < ENOUGH
