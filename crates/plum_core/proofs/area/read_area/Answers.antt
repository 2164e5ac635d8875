use Rattle.std.proofs.Common.{Bool, true, false, take, sym, ◌∙◌, append-nil}
use Rattle.std.proofs.lemmas.List.{take_all, take_more}
use Rattle.std.proofs.lemmas.Slice.Zip.{all_zipped_more}
use Rattle.std.specs.Str.{bytes_eq}
use Rattle.plum_base.specs.declared.sites.TargetSite.{TargetSite}
use Rattle.plum_base.specs.Sites.{targets_of}
use Rattle.plum_geo.specs.Prediction.{IsPredictionOver}
use Rattle.plum_base.proofs.Pushes.{filter_more}
use Rattle.plum_core.proofs.area.read_area.Goals as goal
use Rattle.plum_core.proofs.area.read_area.Goals.{then-eq+in_ok-push, else-eq}

-- one target more
pub loop-target-preserved : goal.loop-target-preserved
loop-target-preserved c =
    let stations = c.stations-stations.result.now in
    let history = c.args.history.now in
    let targets = c.targets-targets.result.now in
    let area = c.args.area.now in
    let target = c.target-item.result in
    let front = take c.loop-target.target-index targets in
    let test : TargetSite → Bool = λ t. bytes_eq t.area area in
    let one_more = take_more targets c.loop-target.target-index target c.loop-target-test.true in
    elim c.if-eq.branch [
      | then-eq+in_ok-push w ↦
          let of_area = filter_more test front target true (sym c.eq.ensures ∙ w.if-eq.true) in
          rw (one_more, ← c.target-item.is, of_area, w.answers-is, w.in_ok-push.ensures.ok)
          (all_zipped_more (IsPredictionOver stations history) (targets_of area front)
          c.loop-target.answers target w.predict.result c.loop-target.invariant
          (w.predict.ensures history c.in_ok-shown.ensures))
      | else-eq w ↦
          let of_another =
          filter_more test front target false (sym c.eq.ensures ∙ w.if-eq.false)
          ∙ append-nil (targets_of area front) in
          rw (one_more, ← c.target-item.is, of_another, w.answers-is) c.loop-target.invariant
    ]

pub returns-clause-answers : goal.returns-clause-answers
returns-clause-answers c =
    let targets = c.targets-targets.result.now in
    let all = take_all c.loop-target.target-index targets c.loop-target-test.false in
    rw (all, c.stations-stations.ensures.value, c.targets-targets.ensures.value)
    at c.loop-target.invariant
