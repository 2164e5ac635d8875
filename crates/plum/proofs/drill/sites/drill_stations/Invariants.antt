use Rattle.std.proofs.Common.{◌≡◌, map}
use Rattle.std.specs.List.{range_with_len}
use Rattle.plum.specs.DrillSites.{drill_station}
use Rattle.plum.proofs.drill.sites.drill_stations.Given as goal

abbrev pub invariant-loop-i : goal.invariant-loop-i
invariant-loop-i l = l.sites.items ≡ map drill_station (range_with_len 0 l.i)
