-- The level of a run: the greatest threshold that its amplitude reaches for 0.3 seconds in total
-- (the JMA intensity), over the last minute (the project's own window). There are 100 samples in a
-- second.
use Rattle.std.specs.Prelude.{◌≡◌, ℕ, ◌+◌, ◌-◌, ◌<◌, ◌≤◌, nat_le, if◌then◌else◌, List, [], ◌∷◌}
use Rattle.std.specs.Prelude.{length, drop, slice_index, count_by, Option, Some, None}
use Rattle.std.specs.List.{prefix_len}
use Rattle.std.specs.Option.{option_map, option_or}
use Rattle.plum_base.specs.Levels.{StartsAtZero}

-- how many samples the window has: a minute
abbrev pub WINDOW : ℕ
WINDOW = 6000

-- how many of them must reach a threshold: 0.3 seconds
abbrev pub ENOUGH : ℕ
ENOUGH = 30

-- the last 6,000 of them (the window), or all where they are fewer
abbrev pub last_minute : List ℕ → List ℕ
last_minute amplitudes = drop (length amplitudes - WINDOW) amplitudes

-- how many of the last minute are at least the threshold
abbrev pub reaching : ℕ → List ℕ → ℕ
reaching threshold amplitudes = count_by (λ a. nat_le threshold a) (last_minute amplitudes)

-- The level is the greatest whose threshold enough of the last minute reach: 30, or 0.3 seconds.
pub record IsLevel (thresholds amplitudes : List ℕ) (i : ℕ) : Type 0 where
  pub listed : i < length thresholds
  pub reached : ENOUGH ≤ reaching (slice_index thresholds i) amplitudes
  pub greatest : (j : ℕ) → i < j → j < length thresholds
      → reaching (slice_index thresholds j) amplitudes < ENOUGH

-- A run of fewer than 30 samples has no level. Any other has one.
abbrev pub IsLevelOfRun : List ℕ → List ℕ → Option ℕ → Type 0
IsLevelOfRun thresholds amplitudes None = length amplitudes < ENOUGH
IsLevelOfRun thresholds amplitudes (Some i) =
    (ENOUGH ≤ length amplitudes) × IsLevel thresholds amplitudes i

-- The greatest threshold that enough of the last minute reach, as a function: what the later
-- thresholds give, one more; where they give none, 0 if enough reach the first; else none.
abbrev pub greatest_reached : List ℕ → List ℕ → Option ℕ
greatest_reached [] amplitudes = None
greatest_reached (t ∷ ts) amplitudes =
    option_or (option_map (λ i. i + 1) (greatest_reached ts amplitudes))
    (if nat_le ENOUGH (reaching t amplitudes) then Some 0 else None)

-- The level of a run, as a function of thresholds and amplitudes.
abbrev pub level_of : List ℕ → List ℕ → Option ℕ
level_of thresholds amplitudes =
    if nat_le ENOUGH (length amplitudes) then greatest_reached thresholds amplitudes else None

-- What is the level of a run is what the function gives.
abbrev pub OneLevel : Type 0
OneLevel = (thresholds amplitudes : List ℕ) (level : Option ℕ)
    → IsLevelOfRun thresholds amplitudes level → level ≡ level_of thresholds amplitudes

-- At thresholds that start at 0, what the function gives is the level of the run.
abbrev pub LevelIs : Type 0
LevelIs = (thresholds amplitudes : List ℕ) → StartsAtZero thresholds
    → IsLevelOfRun thresholds amplitudes (level_of thresholds amplitudes)

-- The level of one sample, in a table that rises from 0: the last threshold that it reaches.
abbrev pub sample_level : List ℕ → ℕ → ℕ
sample_level thresholds amplitude = prefix_len (λ t. nat_le t amplitude) thresholds - 1
