-- The targets of each area, by their numbers.
use Rattle.std.specs.Prelude.{List, Vec}
use Rattle.std.specs.declared.alloc.Global.{Global}
use Rattle.std.specs.List.{AllZip}
use Rattle.plum_base.specs.declared.numbers.TargetNo.{TargetNo}
use Rattle.plum_base.specs.declared.sites.TargetSite.{TargetSite}
use Rattle.plum_base.specs.Sites.{AreNumbersOf, areas_of, targets_of}

-- The lists are those of the areas, in order: each has the targets of its area, in file order.
abbrev pub AreByArea : List TargetSite → List (Vec TargetNo Global) → Type 0
AreByArea targets lists =
    AllZip (λ area list. AreNumbersOf targets list.items (targets_of area targets))
    (areas_of targets) lists
