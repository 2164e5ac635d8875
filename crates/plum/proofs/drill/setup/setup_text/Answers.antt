use Rattle.std.proofs.Common.{ℕ, ◌<◌, pos, List, ◌++◌, length, take, get_or, sym, ap, ◌∙◌, arith}
use Rattle.std.proofs.lemmas.List.{flat_map_more, take_more}
use Rattle.std.specs.List.{flat_map}
use Rattle.plum_base.specs.declared.cascade.Rounding.TheVariants.{Floor}
use Rattle.plum_base.specs.declared.cascade.Stage.{Stage}
use Rattle.plum_table.specs.Setup.{fields_of}
use Rattle.plum.specs.DrillSetup.{head_text, stage_text}
use Rattle.plum.proofs.drill.setup.setup_text.Goals as goal

pub loop-stage-preserved : goal.loop-stage-preserved
loop-stage-preserved c =
    let stages : List Stage = c.args.setup.now.cascade in
    let start : List ℕ = head_text (fields_of c.args.setup.now) in
    let i = c.loop-stage.stage-index in
    let none : Stage = record {
      b0 = pos 0;
      b1 = pos 0;
      b2 = pos 0;
      a1 = pos 0;
      a2 = pos 0;
      q = 0;
      round = Floor;
    } in
    let stage = get_or stages i none in
    let below : i < length stages = omega (arith, ap length c.stages-stage-items.ensures.value) in
    c.in_ok-put_stage.ensures
    ∙ ap (λ (l : List Stage). c.loop-stage.text ++ stage_text (get_or l i none))
    c.stages-stage-items.ensures.value
    ∙ ap (λ (l : List ℕ). l ++ stage_text stage) c.loop-stage.invariant
    ∙ flat_map_more stage_text start (take i stages) stage
    ∙ ap (λ (l : List Stage). start ++ flat_map stage_text l) (sym (take_more stages i none below))
