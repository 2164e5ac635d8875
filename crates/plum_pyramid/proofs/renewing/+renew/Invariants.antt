use Rattle.std.proofs.Common.{◌≡◌, ℕ, ◌-◌, ◌<◌, ◌≤◌, ◌⊎◌, length}
use Rattle.plum_geo.specs.Shown.{value_in}
use Rattle.plum_pyramid.specs.Cells.{AreMaximaWithout, IsMaximum, cell_at}
use Rattle.plum_pyramid.specs.Maxima.{said, IsGreatest}
use Rattle.plum_pyramid.proofs.renewing.+renew.Given as goal

-- the maxima of the parts so far are right, and the greatest of them is of all their stations
abbrev pub invariant-loop-part : goal.invariant-loop-part
invariant-loop-part l = record {
  low : l.here < l.part;
  high : l.part ≤ (cell_at l.layout l.here).skip;
  greatest : IsGreatest (said l.values) l.layout.members.items (cell_at l.layout l.here).first
      (cell_at l.layout l.part).first l.greatest;
  right : (j : ℕ) → l.here < j → j < l.part → IsMaximum l.layout l.values j (value_in l.maxima j);
  without : AreMaximaWithout l.layout l.values l.maxima l.station.0;
  beyond : (j : ℕ) → (j ≤ l.here) ⊎ ((cell_at l.layout l.here).skip ≤ j)
      → value_in l.maxima j ≡ value_in l.initial.maxima j;
}

abbrev pub decreases-loop-part : goal.decreases-loop-part
decreases-loop-part l = (cell_at l.layout l.here).skip - l.part

-- what is within a cell stands behind it
abbrev pub decreases-renew : goal.decreases-renew
decreases-renew l = length l.layout.now.cells.items - l.here
