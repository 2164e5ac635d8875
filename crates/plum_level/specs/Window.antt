-- A window, and what it was given.
use Rattle.std.specs.Prelude.{◌≡◌, ℕ, ◌≤◌, List, length, map}
use Rattle.plum_base.specs.Levels.{LevelsView, AreThresholds}
use Rattle.plum_level.specs.Level.{WINDOW, last_minute, sample_level}
use Rattle.plum_level.specs.Tallies.{AreCountsOf, IsSettled}
use Rattle.plum_level.specs.declared.tally.Tally.{Tally}

-- what a window shows: its table, and the level of each sample of the last minute
pub record WindowView : Type 0 where
  pub thresholds : List ℕ
  pub levels : List ℕ

-- A window of this table was given these amplitudes since it was made or reset.
pub record StandsFor (window : WindowView) (table : LevelsView) (amplitudes : List ℕ) : Type 0 where
  pub same_table : window.thresholds ≡ table.thresholds
  pub levels : window.levels ≡ map (sample_level table.thresholds) (last_minute amplitudes)

-- What holds of a window: a table that rises from 0, a minute of levels at most, and a settled
-- tally of them.
pub record IsWindow (window : WindowView) (tally : Tally) : Type 0 where
  pub table : AreThresholds window.thresholds
  pub short : length window.levels ≤ WINDOW
  pub settled : IsSettled tally
  pub counted : AreCountsOf tally.counts window.levels
