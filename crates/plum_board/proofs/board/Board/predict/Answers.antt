use Rattle.std.proofs.Common.{◌≡◌, ◌<◌, List, length, Option, Some, refl, sym, ap, subst, ◌∙◌}
use Rattle.std.proofs.lemmas.Option.{slice_get_read}
use Rattle.std.specs.Prelude.{slice_get, IsSomeAnd}
use Rattle.plum_base.specs.declared.sites.StationSite.{StationSite}
use Rattle.plum_base.specs.declared.sites.TargetSite.{TargetSite}
use Rattle.plum_base.specs.Sites.{SitesView}
use Rattle.plum_geo.specs.Prediction.{IsBest, IsPredictionOver}
use Rattle.plum_geo.specs.Shown.{value_in}
use Rattle.plum_board.proofs.board.Board.predict.Goals as goal

pub returns : goal.returns
returns c = λ sites entries stands.
    let before = rw (← c.self.view_is) at stands in
    let same = before.same_sites in
    let targets = c.targets.result.now in
    let target = c.index-targets-position.result in
    let exists : c.args.target.0 < length targets =
    rw (c.targets.ensures.value, same, ← stands.same_sites) c.requires.exists in
    let read : slice_get targets c.args.target.0 ≡ Some target =
    slice_get_read targets (length targets) c.args.target.0 target refl exists
    c.index-targets-position.is in
    let all : targets ≡ sites.targets =
    c.targets.ensures.value ∙ ap (λ (s : SitesView). s.targets) same in
    let listed : slice_get sites.targets c.args.target.0 ≡ Some target =
    subst (λ (ts : List TargetSite). slice_get ts c.args.target.0 ≡ Some target) all read in
    let values = c.self.inside.pyramid.values in
    let stations = c.self.invariant.0 ∙ ap (λ (s : SitesView). s.stations) same in
    let best : IsBest sites.stations (value_in values) target.at c.best.result =
    subst (λ (ss : List StationSite). IsBest ss (value_in values) target.at c.best.result) stations
    c.best.ensures.exact in
    subst (λ (o : Option TargetSite). IsSomeAnd o
    (λ t. IsPredictionOver sites.stations entries t c.predicted.result)) (sym listed)
    (c.predicted.ensures.over values sites.stations entries before.shown best)
