use Rattle.std.proofs.Common.{refl, arith}
use Rattle.std.proofs.lemmas.Bool.{false≢true}
use Rattle.plum_base.proofs.Areas.{areas_same, areas_new}
use Rattle.plum_base.proofs.sites.area_count.Goals as goal
use Rattle.plum_base.proofs.sites.area_count.Goals.{then-not-has_area, else-not-has_area}

pub loop-i-preserved : goal.loop-i-preserved
loop-i-preserved c =
    let ts = c.args.targets.now in
    elim c.if-not-has_area.branch [
      | then-not-has_area w ↦
          let e = areas_new ts c.loop-i.i _ c.loop-i-test.true c.index-targets-i.is
          (λ a. false≢true (w.if-not-has_area.ensures.1 a)) in
          record {
            counted = omega (arith, w.count-is, e, c.loop-i.invariant.counted);
            at_most =
                omega arith;
          }
      | else-not-has_area w ↦
          let e = areas_same ts c.loop-i.i _ c.loop-i-test.true c.index-targets-i.is
          (w.if-not-has_area.ensures.0 refl) in
          record {
            counted = omega (arith, w.count-is, e, c.loop-i.invariant.counted);
            at_most =
                omega arith;
          }
    ]
