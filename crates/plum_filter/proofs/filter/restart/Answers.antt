use Rattle.std.proofs.Common.{◌<◌, length}
use Rattle.std.proofs.lemmas.List.Elements.{All-set}
use Rattle.plum_filter.specs.Filter.{IsBiquad}
use Rattle.plum_filter.proofs.Filters.{restarted_more}
use Rattle.plum_filter.proofs.filter.restart.Goals as goal

pub loop-stage-preserved : goal.loop-stage-preserved
loop-stage-preserved c =
    let i = c.loop-stage.stage-index in
    let stages = c.loop-stage.stages in
    let long = c.loop-stage.auto.stages in
    let within : i < length c.args.stages.now = c.loop-stage-test.true in
    let so_far = c.loop-stage.invariant.0 in (
      restarted_more _ stages i _ _ long within so_far c.new.ensures.value,
      All-set IsBiquad stages i c.new.result c.new.ensures.biquad c.loop-stage.invariant.1,
    )
