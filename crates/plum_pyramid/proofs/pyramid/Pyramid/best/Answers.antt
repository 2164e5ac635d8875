use Rattle.std.proofs.Common.{List, length, Option, subst}
use Rattle.plum_base.specs.declared.numbers.Tenths.{Tenths}
use Rattle.plum_geo.specs.Prediction.{IsBest}
use Rattle.plum_geo.specs.Shown.{value_in}
use Rattle.plum_pyramid.specs.Maxima.{said_at, IsGreatest}
use Rattle.plum_pyramid.specs.Pyramid.{PyramidView}
use Rattle.plum_pyramid.proofs.Bests.{IsBest-from, IsBest-by_sets, in_range-from}
use Rattle.plum_pyramid.proofs.pyramid.Pyramid.best.Goals as goal

pub returns : goal.returns
returns c =
    let layout = c.self.inside.layout in
    let values = c.self.inside.values.items in
    let at = c.args.at in
    let best = c.best_at.result in
    let finds = c.near_stations_are_those_near.ensures in
    let members = layout.members.items in
    let greatest : IsGreatest (said_at values at) members 0 (length members) best =
    subst (λ (vs : List (Option Tenths)).
    IsGreatest (said_at vs at) members 0 (length members) best)
    c.as_slice.ensures.value c.best_at.ensures in
    let is : IsBest c.args.self.now.stations (value_in c.args.self.now.values) at best =
    subst (λ (p : PyramidView). IsBest p.stations (value_in p.values) at best) c.self.view_is
    (IsBest-from layout values at c.self.invariant.0 finds best greatest) in
    record {
      best = IsBest-by_sets c.args.self.now at best is;
      exact = is;
      range = in_range-from layout values at c.self.invariant.0 finds best greatest;
    }
