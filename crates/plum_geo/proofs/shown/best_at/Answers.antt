use Rattle.std.proofs.Common.{◌≡◌, ℕ, ◌<◌, length, take, get_or, pos, Option}
use Rattle.std.proofs.lemmas.List.{take_more, take_all, length-take-le}
use Rattle.plum_base.specs.declared.numbers.Tenths.{Tenths}
use Rattle.plum_base.specs.declared.sites.StationSite.{StationSite}
use Rattle.plum_geo.specs.Corrected.{IsOnCorrectedScale}
use Rattle.plum_geo.specs.Shown.{value_in}
use Rattle.plum_geo.proofs.Predictions.{IsBest-nil, IsBest-push, IfSome-one}
use Rattle.plum_geo.proofs.shown.best_at.Goals as goal

pub loop-n-init : goal.loop-n-init
loop-n-init c = record {
  best = IsBest-nil _ _ c.near_stations_are_those_near.ensures;
  range = tt;
}

pub loop-n-preserved : goal.loop-n-preserved
loop-n-preserved c =
    let stations = c.args.stations.now in
    let n = c.loop-n.n in
    let blank : StationSite = record {
      code = 0;
      at = record { x = pos 0; y = pos 0 };
      factor = record { 0 = pos 0 };
    } in
    let values : ℕ → Option Tenths = value_in c.args.values.now in
    let so_far : length (take n stations) ≡ n = length-take-le n stations c.loop-n.auto.n-end in
    let said = c.said_by-said.ensures in
    let greater = c.greater_of-greatest.ensures in
    let listed : n < length stations = c.loop-n-test.true in
    record {
      best =
          rw (take_more stations n blank listed)
          (IsBest-push values c.args.place c.near_stations_are_those_near.ensures (take n stations)
          (get_or stations n blank) c.loop-n.greatest c.said_by-said.result
          c.greater_of-greatest.result c.loop-n.invariant.best
          (rw so_far said.some)
          (rw so_far said.none)
          greater.first greater.second greater.one);
      range = IfSome-one IsOnCorrectedScale _ _ _ greater.one c.loop-n.invariant.range said.range;
    }

pub returns-clause-best : goal.returns-clause-best
returns-clause-best c =
    rw (take_all c.loop-n.n c.args.stations.now c.loop-n-test.false) at c.loop-n.invariant.best
