use Rattle.std.proofs.Common.{◌≤◌}
use Rattle.std.specs.Prelude.{All}
use Rattle.toml.specs.Data.{as_integer}
use Rattle.plum_base.specs.Levels.{GREATEST_AMPLITUDE}
use Rattle.plum_table.specs.Levels.{threshold_of}
use Rattle.plum_table.proofs.Walks.{ReadSoFar}
use Rattle.plum_table.proofs.levels.read_thresholds.Given as goal

abbrev pub invariant-loop-value : goal.invariant-loop-value
invariant-loop-value l =
    ReadSoFar (λ _ z. threshold_of z) as_integer l.values l.value-index l.thresholds.items
    × All (λ t. t ≤ GREATEST_AMPLITUDE) l.thresholds.items
