use Rattle.plum_level.proofs.Windows.{IsWindow-none}
use Rattle.plum_level.proofs.window.Window.reset.Goals as goal

pub invariant_of-self : goal.invariant_of-self
invariant_of-self c =
    rw c.clear.ensures (
      c.self.invariant.0,
      IsWindow-none _ _ c.self.invariant.1.table c.clear-2.ensures.counts
          c.clear-2.ensures.settled,
    )
