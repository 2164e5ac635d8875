use Rattle.std.proofs.Common.{◌≡◌, ◌≤◌, ◌∙◌, Some, sym, arith, to_z, of_z, w64}
use Rattle.std.proofs.lemmas.Int.{ints}
use Rattle.std.proofs.lemmas.List.Elements.{All-push}
use Rattle.std.proofs.lemmas.Result.{err_from_is_err_and}
use Rattle.toml.specs.Data.{as_integer}
use Rattle.toml.specs.View.{view}
use Rattle.plum_base.specs.Levels.{GREATEST_AMPLITUDE}
use Rattle.plum_table.specs.Levels.{threshold_of}
use Rattle.plum_table.proofs.Walks.{read_more, read_fault}
use Rattle.plum_table.proofs.levels.read_thresholds.Goals as goal

pub returns-in_err-threshold-clause-value : goal.returns-in_err-threshold-clause-value
returns-in_err-threshold-clause-value c =
    let v = c.value-item.result in
    let kind : as_integer (view v) ≡ Some c.unwrap.result =
    sym c.as_integer.ensures ∙ c.unwrap.ensures in
    let same : to_z w64 (of_z w64 c.unwrap.result) ≡ c.unwrap.result = grind (arith, ints) in
    let read = rw same at c.in_err-threshold.ensures.value in
    let stop = read_fault (λ _ z. threshold_of z) as_integer _ _ _ v _ _ (omega arith)
    (sym c.value-item.is) kind (sym read) c.loop-value.invariant.0 in
    let exit = err_from_is_err_and c.from_residual.result c.from_residual.ensures.1 in
    rw (exit.1, exit.2, stop)

pub loop-value-preserved : goal.loop-value-preserved
loop-value-preserved c =
    let v = c.value-item.result in
    let kind : as_integer (view v) ≡ Some c.unwrap.result =
    sym c.as_integer.ensures ∙ c.unwrap.ensures in
    let same : to_z w64 (of_z w64 c.unwrap.result) ≡ c.unwrap.result = grind (arith, ints) in
    let read = rw same at c.in_ok-threshold.ensures.value in (
      rw c.push.ensures.items
          (read_more (λ _ z. threshold_of z) as_integer _ _ _ v _ _ (omega arith)
          (sym c.value-item.is) kind (sym read) c.loop-value.invariant.0),
      rw c.push.ensures.items
          (All-push (λ t. t ≤ GREATEST_AMPLITUDE) _ _ c.loop-value.invariant.1
          c.in_ok-threshold.ensures.range),
    )
