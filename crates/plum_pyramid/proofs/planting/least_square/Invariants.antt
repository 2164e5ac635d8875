use Rattle.std.specs.Prelude.{◌≤ℤ◌, nat_abs}
use Rattle.plum_geo.specs.Square.{IsSquare}
use Rattle.plum_pyramid.specs.Cells.{AreHeld}
use Rattle.plum_pyramid.proofs.planting.least_square.Given as goal

abbrev pub invariant-loop-least : goal.invariant-loop-least
invariant-loop-least l = record {
  square : IsSquare l.least;
  held : AreHeld l.members l.first l.end l.least;
  side : l.least.side ≤ℤ l.fn.square.side;
}

abbrev pub decreases-loop-least : goal.decreases-loop-least
decreases-loop-least l = nat_abs l.least.side
