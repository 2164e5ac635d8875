use Rattle.std.specs.Prelude.{All}
use Rattle.toml.specs.Data.{as_table}
use Rattle.plum_base.specs.Cascade.{IsStage}
use Rattle.plum_table.specs.Stages.{stage_of}
use Rattle.plum_table.proofs.Walks.{ReadSoFar}
use Rattle.plum_table.proofs.stages.read_stages.Given as goal

abbrev pub invariant-loop-k : goal.invariant-loop-k
invariant-loop-k l =
    ReadSoFar stage_of as_table l.tables l.k l.stages.items × All IsStage l.stages.items
