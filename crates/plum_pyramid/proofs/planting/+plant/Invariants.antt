use Rattle.std.proofs.Common.{◌≡◌, ℕ, ◌+◌, ◌-◌, ◌<◌, ◌≤◌, length}
use Rattle.std.specs.Prelude.{nat_abs}
use Rattle.plum_pyramid.specs.Cells.{AreCells, cell_of}
use Rattle.plum_pyramid.proofs.planting.+plant.Given as goal

-- the runs within it so far are cells, behind the cell itself and those before it, which stay
abbrev pub invariant-loop-from : goal.invariant-loop-from
invariant-loop-from l = record {
  low : l.first ≤ l.from;
  high : l.from ≤ l.end;
  longer : l.here < length l.cells.items;
  kept : (k : ℕ) → k ≤ l.here
      → cell_of l.cells.items l.from k ≡ cell_of l.initial.cells.items l.first k;
  begins : (cell_of l.cells.items l.from (l.here + 1)).first ≡ l.first;
  cells : AreCells l.members (cell_of l.cells.items l.from) (l.here + 1) (length l.cells.items);
}

abbrev pub decreases-loop-from : goal.decreases-loop-from
decreases-loop-from l = l.end - l.from

-- each quarter has a lesser side
abbrev pub decreases-plant : goal.decreases-plant
decreases-plant l = nat_abs l.square.side
