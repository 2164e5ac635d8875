use Rattle.std.proofs.Common.{◌≡◌, ◌++◌, take, codes}
use Rattle.std.specs.List.{flat_map}
use Rattle.plum.specs.DrillSites.{station_row}
use Rattle.plum.proofs.drill.sites.stations_text.Given as goal

abbrev pub invariant-loop-site : goal.invariant-loop-site
invariant-loop-site l = l.text
    ≡ codes "code,x,y,factor\n" ++ flat_map station_row (take l.site-index l.stations)
