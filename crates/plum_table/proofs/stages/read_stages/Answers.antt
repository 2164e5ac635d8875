use Rattle.std.proofs.Common.{◌≡◌, ◌∙◌, Some, option_map, sym, ap, arith}
use Rattle.std.proofs.lemmas.List.Elements.{All-push}
use Rattle.toml.specs.Data.{as_table}
use Rattle.toml.specs.View.{view, table_view}
use Rattle.plum_base.specs.Cascade.{IsStage}
use Rattle.plum_table.specs.Stages.{stage_of}
use Rattle.plum_table.proofs.Walks.{read_more}
use Rattle.plum_table.proofs.stages.read_stages.Goals as goal

pub loop-k-preserved : goal.loop-k-preserved
loop-k-preserved c =
    let v = c.index-tables-k.result in
    let kind : as_table (view v) ≡ Some (table_view c.unwrap.result.now) =
    sym c.as_table.ensures ∙ ap (option_map (λ m. table_view m.now)) c.unwrap.ensures in (
      rw c.push.ensures.items
          (read_more stage_of as_table _ _ _ v _ _ (omega arith) (sym c.index-tables-k.is) kind
          (sym c.in_ok-read_stage.ensures.value) c.loop-k.invariant.0),
      rw c.push.ensures.items
          (All-push IsStage _ _ c.loop-k.invariant.1 c.in_ok-read_stage.ensures.range),
    )
