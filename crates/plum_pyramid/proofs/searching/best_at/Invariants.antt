use Rattle.std.proofs.Common.{◌-◌, length}
use Rattle.plum_pyramid.specs.Cells.{HasSearched}
use Rattle.plum_pyramid.proofs.searching.best_at.Given as goal

abbrev pub invariant-loop-search : goal.invariant-loop-search
invariant-loop-search l = HasSearched l.layout l.values l.place l.search

abbrev pub decreases-loop-search : goal.decreases-loop-search
decreases-loop-search l = length l.layout.cells.items - l.search.next
