use Rattle.std.proofs.Common.{map, take, sym, ◌<◌, length, ◌∷◌, [], ◌++◌, ◌∙◌, ap, subst}
use Rattle.std.proofs.lemmas.List.{take_all, map_more}
use Rattle.std.proofs.lemmas.List.Elements.{All-push}
use Rattle.std.specs.Prelude.{All}
use Rattle.plum_filter.specs.Filter.{IsBiquad, new_biquad}
use Rattle.plum_filter.proofs.Filters.{biquads_after-none}
use Rattle.plum_filter.proofs.filter.Filter.new.Goals as goal

pub loop-stage-preserved : goal.loop-stage-preserved
loop-stage-preserved c =
    let at = c.loop-stage in
    let i = at.stage-index in
    let given = c.stages-stage-items.result.now in
    let within : i < length given = c.loop-stage-test.true in
    let pushed = c.push.ensures.items in (
      pushed
          ∙ ap (λ bs. bs ++ c.new.result ∷ []) at.invariant.0
          ∙ ap (λ b. map new_biquad (take i given) ++ b ∷ []) c.new.ensures.value
          ∙ sym (map_more new_biquad given i _ within),
      subst (All IsBiquad) (sym pushed)
          (All-push IsBiquad at.stages.items c.new.result at.invariant.1 c.new.ensures.biquad),
    )

pub returns : goal.returns
returns c =
    let cascade = c.stages-stage-items.ensures.value in
    let all = take_all c.loop-stage.stage-index _ c.loop-stage-test.false in
    record {
      stands =
          c.loop-stage.invariant.0
          ∙ ap (map new_biquad) (all ∙ cascade)
          ∙ sym (biquads_after-none c.args.cascade.now);
    }
