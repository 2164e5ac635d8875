use Rattle.std.proofs.Common.{◌<◌, length, ◌∙◌, ap, sym, arith, min}
use Rattle.plum_level.specs.Level.{sample_level}
use Rattle.plum_level.proofs.Filling.{sample_level-take}
use Rattle.plum_level.proofs.thresholds.Thresholds.level_of.Goals as goal

pub returns-clause-level : goal.returns-clause-level
returns-clause-level c =
    let here = c.self.inside in
    let within : here.last < length here.filled =
    omega (arith, c.self.invariant.places, c.self.invariant.listed) in
    c.min.ensures
    ∙ ap (λ level. min level here.last) c.last_reached.ensures.level
    ∙ sym (sample_level-take here.filled c.args.amp here.last within)
    ∙ ap (λ ts. sample_level ts c.args.amp) c.self.view_is
