use Rattle.std.proofs.Common.{◌≤◌, length, sym, subst, arith}
use Rattle.plum_level.specs.Level.{ENOUGH}
use Rattle.plum_level.specs.Window.{WindowView, StandsFor}
use Rattle.plum_level.proofs.Windows.{IsLevelOfRun-some}
use Rattle.plum_level.proofs.window.Window.level.Goals as goal

pub returns : goal.returns
returns c = record {
  level = λ table amplitudes stands.
      let inside = subst (λ (w : WindowView). StandsFor w table amplitudes) (sym c.self.view_is)
      stands in
      let long : ENOUGH ≤ length c.self.inside.ring.items =
      omega (arith, c.if-len-lt-ENOUGH.false, c.len.ensures.len) in
      rw c.top.ensures
      (IsLevelOfRun-some _ c.self.inside.tally table amplitudes c.self.invariant.1 inside long);
}
