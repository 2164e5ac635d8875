use Rattle.std.proofs.Common.{◌+◌, ◌<◌, length, get_or, arith}
use Rattle.std.proofs.lemmas.Option.{slice_get-get_or}
use Rattle.plum_geo.specs.Corrected.{IsOnCorrectedScale}
use Rattle.plum_pyramid.specs.Maxima.{said_at}
use Rattle.plum_geo.proofs.Predictions.{IfSome-one}
use Rattle.plum_pyramid.proofs.Greatest.{IsGreatest-one, IsGreatest-join}
use Rattle.plum_pyramid.proofs.Holding.{blank}
use Rattle.plum_pyramid.proofs.maxima.greatest_said_at.Goals as goal

pub loop-p-preserved : goal.loop-p-preserved
loop-p-preserved c =
    let members = c.args.members.now in
    let said = said_at c.args.values.now c.args.place in
    let p = c.loop-p.p in
    let so_far = c.loop-p.greatest in
    let own = c.said_at.result in
    let after = c.greater_of-greatest.result in
    let greater = c.greater_of-greatest.ensures in
    let within : p < length members = omega arith in
    record {
      greatest =
          IsGreatest-join said members c.args.first p (p + 1) so_far own after
          (omega arith) (omega arith) c.loop-p.invariant.greatest
          (IsGreatest-one said members p (get_or members p blank)
          (slice_get-get_or members p blank within) own c.said_at.ensures.value)
          greater.one greater.first greater.second;
      range =
          IfSome-one IsOnCorrectedScale so_far own after greater.one
          c.loop-p.invariant.range c.said_at.ensures.range;
    }
