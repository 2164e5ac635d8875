use Rattle.std.proofs.Common.{◌∙◌}
use Rattle.plum_geo.proofs.shown.Shown.predict.Goals as goal

pub returns : goal.returns
returns c = λ entries shown.
    let same = c.as_slice.ensures.value ∙ c.self.view_is in
    c.predicted.ensures.over c.args.self.now c.args.stations.now entries shown
    (rw (← same) c.best_at.ensures.best)
