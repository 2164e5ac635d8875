-- The ranges of a cascade's numbers (the project's own fixed point, for the recursive filters of
-- Kunugi and others 2013).
use Rattle.std.specs.Prelude.{◌≡◌, ℕ, ◌^◌, ◌<◌, ◌≤◌, ℤ, List, [], length, slice_get, All, IsSomeAnd}
use Rattle.plum_base.specs.declared.bounds.Bounds.{Bounds}
use Rattle.plum_base.specs.declared.cascade.Stage.{Stage}
use Rattle.plum_base.specs.declared.cascade.CascadeFault.{CascadeFault}
use Rattle.plum_base.specs.declared.cascade.CascadeFault.TheVariants as faults
use Rattle.plum_base.specs.Bounds.{IsUpTo}

-- the greatest coefficient
abbrev pub GREATEST_COEFFICIENT : ℕ
GREATEST_COEFFICIENT = 2 ^ 30

-- the bounds of a stage's q: its coefficients are multiples of 2^-q
abbrev pub STAGE_Q : Bounds
STAGE_Q = record { low = 1; high = 30 }

-- how many stages a cascade has at most
abbrev pub MOST_STAGES : ℕ
MOST_STAGES = 8

-- from -2^30 to 2^30
abbrev pub IsCoefficient : ℤ → Type 0
IsCoefficient b = IsUpTo GREATEST_COEFFICIENT b

-- each number of the stage is in its range
pub record IsStage (s : Stage) : Type 0 where
  pub b0 : IsCoefficient s.b0
  pub b1 : IsCoefficient s.b1
  pub b2 : IsCoefficient s.b2
  pub a1 : IsCoefficient s.a1
  pub a2 : IsCoefficient s.a2
  pub q_low : STAGE_Q.low ≤ s.q
  pub q_high : s.q ≤ STAGE_Q.high

-- one stage or more, not too many, and each in range
pub record IsCascade (stages : List Stage) : Type 0 where
  pub some : 1 ≤ length stages
  pub few : length stages ≤ MOST_STAGES
  pub each : All IsStage stages

-- what is wrong first
abbrev pub IsFirstCascadeFault : List Stage → CascadeFault → Type 0
IsFirstCascadeFault stages faults.Empty = stages ≡ []
IsFirstCascadeFault stages (faults.Stage k) =
    IsSomeAnd (slice_get stages k) (λ s. ¬ IsStage s)
    × ((j : ℕ) → j < k → IsSomeAnd (slice_get stages j) IsStage)
