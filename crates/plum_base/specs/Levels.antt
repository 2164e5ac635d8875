-- The threshold table (the project's own; the tenths it cuts are those of the JMA scale).
use Rattle.std.specs.Prelude.{◌≡◌, ◌≢◌, ℕ, ◌-◌, ◌*◌, ◌^◌, ◌<◌, ◌≤◌, List, [], length, slice_index}
use Rattle.std.specs.Prelude.{Bool, ◌==◌, nat_le, zip, drop, Option}
use Rattle.std.specs.List.{position_from}
use Rattle.plum_base.specs.declared.numbers.Tenths.{Tenths}
use Rattle.plum_base.specs.declared.levels.LevelFault.{LevelFault}
use Rattle.plum_base.specs.declared.levels.LevelFault.TheVariants as faults
use Rattle.plum_base.specs.Bounds.{IsUpTo}

-- squared amplitudes, and the tenth at which level 0 stands
pub record LevelsView : Type 0 where
  pub thresholds : List ℕ
  pub base : Tenths

-- the greatest squared amplitude: three components of 2^30
abbrev pub GREATEST_AMPLITUDE : ℕ
GREATEST_AMPLITUDE = 3 * 2 ^ 60

-- how many thresholds a table has at most
abbrev pub MOST_LEVELS : ℕ
MOST_LEVELS = 128

-- the greatest site factor, and the greatest base, in tenths
abbrev pub GREATEST_FACTOR : ℕ
GREATEST_FACTOR = 100

-- site factors and the base: -100 to 100 tenths
abbrev pub IsFactor : Tenths → Type 0
IsFactor t = IsUpTo GREATEST_FACTOR t.0

-- There is a first entry, and it is 0.
abbrev pub StartsAtZero : List ℕ → Type 0
StartsAtZero ts = (0 < length ts) × (slice_index ts 0 ≡ 0)

-- the same as a test, where there is a first entry
abbrev pub starts_at_zero : List ℕ → Bool
starts_at_zero ts = slice_index ts 0 == 0

-- each of the first n entries is greater than its predecessor
abbrev pub RisesUpTo : List ℕ → ℕ → Type 0
RisesUpTo ts n = (i : ℕ) → 0 < i → i < n → slice_index ts (i - 1) < slice_index ts i

-- the position, from 0, of the first entry that is not greater than its predecessor
abbrev pub first_not_rising : List ℕ → Option ℕ
first_not_rising ts = position_from (λ (p : ℕ × ℕ). nat_le p.1 p.0) 1 (zip ts (drop 1 ts))

-- none of the first n entries is above what three components can give
abbrev pub IsWithinUpTo : List ℕ → ℕ → Type 0
IsWithinUpTo ts n = (i : ℕ) → i < n → slice_index ts i ≤ GREATEST_AMPLITUDE

-- one threshold or more, not too many, from 0 and rising
pub record AreThresholds (ts : List ℕ) : Type 0 where
  pub few : length ts ≤ MOST_LEVELS
  pub start : StartsAtZero ts
  pub rises : RisesUpTo ts (length ts)

-- thresholds, none of them too great, and a base in its range
pub record IsLevelTable (t : LevelsView) : Type 0 where
  pub thresholds : AreThresholds t.thresholds
  pub within : IsWithinUpTo t.thresholds (length t.thresholds)
  pub base : IsFactor t.base

-- the first broken rule, where the rules stand in the order of the variants
abbrev pub IsFirstLevelFault : LevelsView → LevelFault → Type 0
IsFirstLevelFault t faults.Empty = t.thresholds ≡ []
IsFirstLevelFault t faults.First = (0 < length t.thresholds) × (slice_index t.thresholds 0 ≢ 0)
IsFirstLevelFault t (faults.Order i) =
    StartsAtZero t.thresholds × RisesUpTo t.thresholds i
    × (0 < i) × (i < length t.thresholds) × (slice_index t.thresholds i ≤ slice_index t.thresholds
    (i - 1))
IsFirstLevelFault t (faults.Above i) =
    StartsAtZero t.thresholds × RisesUpTo t.thresholds (length t.thresholds)
    × IsWithinUpTo t.thresholds i
    × (i < length t.thresholds) × (GREATEST_AMPLITUDE < slice_index t.thresholds i)
IsFirstLevelFault t faults.Base =
    StartsAtZero t.thresholds × RisesUpTo t.thresholds (length t.thresholds)
    × IsWithinUpTo t.thresholds (length t.thresholds) × (¬ IsFactor t.base)
