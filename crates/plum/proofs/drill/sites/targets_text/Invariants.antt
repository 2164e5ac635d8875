use Rattle.std.proofs.Common.{◌≡◌, ◌++◌, take, codes}
use Rattle.std.specs.List.{flat_map}
use Rattle.plum.specs.DrillSites.{target_row}
use Rattle.plum.proofs.drill.sites.targets_text.Given as goal

abbrev pub invariant-loop-site : goal.invariant-loop-site
invariant-loop-site l = l.text
    ≡ codes "name,area,x,y,factor\n" ++ flat_map target_row (take l.site-index l.targets)
