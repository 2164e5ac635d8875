use Rattle.std.proofs.Common.{◌≡◌, map}
use Rattle.std.specs.List.{range_with_len}
use Rattle.plum.specs.DrillSites.{drill_target}
use Rattle.plum.proofs.drill.sites.drill_targets.Given as goal

abbrev pub invariant-loop-j : goal.invariant-loop-j
invariant-loop-j l = l.sites.items ≡ map drill_target (range_with_len 0 l.j)
