use Rattle.std.specs.List.{range_with_len}
use Rattle.std.proofs.Common.{map, List, ◌++◌, [], ◌∷◌, sym, ap, ◌∙◌, arith}
use Rattle.std.proofs.lemmas.List.FromFn.{map-range_with_len_more}
use Rattle.plum_base.specs.declared.sites.StationSite.{StationSite}
use Rattle.plum.specs.DrillSites.{drill_station}
use Rattle.plum.proofs.drill.sites.drill_stations.Goals as goal

pub loop-i-preserved : goal.loop-i-preserved
loop-i-preserved c =
    let i = c.loop-i.i in
    c.in_ok-push.ensures.items
    ∙ ap (λ (l : List StationSite). l ++ c.drill_station.result ∷ []) c.loop-i.invariant
    ∙ ap (λ (s : StationSite). map drill_station (range_with_len 0 i) ++ s ∷ [])
    c.drill_station.ensures
    ∙ sym (map-range_with_len_more drill_station 0 i i (omega arith))
