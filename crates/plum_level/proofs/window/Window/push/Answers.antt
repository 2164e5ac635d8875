use Rattle.std.proofs.Common.{◌∙◌, ap}
use Rattle.plum_level.specs.Level.{sample_level}
use Rattle.plum_level.specs.Window.{WindowView}
use Rattle.plum_level.proofs.Windows.{StandsFor-more}
use Rattle.plum_level.proofs.window.Window.push.Goals as goal

pub returns : goal.returns
returns c = record {
  stands = λ table amplitudes before.
      let level = c.level_of-level.ensures.level
      ∙ ap (λ (w : WindowView). sample_level w.thresholds c.args.amp) c.self.view_is in
      rw c.take_in.ensures (StandsFor-more _ table amplitudes _ _ before level);
}
