use Rattle.std.proofs.Common.{◌<◌, length, set, ◌∙◌, w32}
use Rattle.std.proofs.Common.{to_z-of_z, FitsSigned, arith, rules}
use Rattle.std.proofs.lemmas.List.Elements.{All-set}
use Rattle.plum_filter.specs.Filter.{IsBiquad}
use Rattle.plum_filter.proofs.Filters.{JoinsInput-done}
use Rattle.plum_filter.proofs.Filters.{answer_through-more, moved_through-more}
use Rattle.plum_filter.proofs.filter.pass.Goals as goal

pub loop-stage-preserved : goal.loop-stage-preserved
loop-stage-preserved c =
    let i = c.loop-stage.stage-index in
    let stages = c.loop-stage.stages in
    let after = set stages i c.step-y.new.self in
    let within : i < length stages = omega arith in
    let fits : FitsSigned w32 c.step-y.result = search rules in
    let moved = c.step-y.ensures.state in
    let answered = c.step-y.ensures.value in
    let answer = answer_through-more stages i _ _ _ _ within moved answered in
    let move = moved_through-more stages i _ _ _ _ within moved answered in
    simp to_z-of_z (
      answer ∙ c.loop-stage.invariant.0,
      move ∙ c.loop-stage.invariant.1,
      All-set IsBiquad stages i c.step-y.new.self c.step-y.ensures.biquad c.loop-stage.invariant.2,
      c.step-y.ensures.term,
    )

pub returns-clause-joins : goal.returns-clause-joins
returns-clause-joins c =
    let x : FitsSigned w32 c.args.x = c.ranges.x in
    let answered = simp to_z-of_z at c.loop-stage.invariant.0 in
    let moved = simp to_z-of_z at c.loop-stage.invariant.1 in
    JoinsInput-done _ _ c.loop-stage.stage-index _ _ (omega arith) answered moved
