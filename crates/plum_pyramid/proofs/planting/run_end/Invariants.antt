use Rattle.std.proofs.Common.{◌+◌, ◌-◌, ◌≤◌}
use Rattle.plum_pyramid.specs.Cells.{AreHeld}
use Rattle.plum_pyramid.proofs.planting.run_end.Given as goal

abbrev pub invariant-loop-p : goal.invariant-loop-p
invariant-loop-p l = record {
  above : l.first + 1 ≤ l.p;
  bound : l.p ≤ l.end;
  held : AreHeld l.members l.first l.p l.square;
}

abbrev pub decreases-loop-p : goal.decreases-loop-p
decreases-loop-p l = l.end - l.p
