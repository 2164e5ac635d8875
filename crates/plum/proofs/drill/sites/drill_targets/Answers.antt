use Rattle.std.specs.List.{range_with_len}
use Rattle.std.proofs.Common.{map, List, ◌++◌, [], ◌∷◌, sym, ap, ◌∙◌, arith}
use Rattle.std.proofs.lemmas.List.FromFn.{map-range_with_len_more}
use Rattle.plum_base.specs.declared.sites.TargetSite.{TargetSite}
use Rattle.plum.specs.DrillSites.{drill_target}
use Rattle.plum.proofs.drill.sites.drill_targets.Goals as goal

pub loop-j-preserved : goal.loop-j-preserved
loop-j-preserved c =
    let j = c.loop-j.j in
    c.in_ok-push.ensures.items
    ∙ ap (λ (l : List TargetSite). l ++ c.drill_target.result ∷ []) c.loop-j.invariant
    ∙ ap (λ (s : TargetSite). map drill_target (range_with_len 0 j) ++ s ∷ [])
    c.drill_target.ensures
    ∙ sym (map-range_with_len_more drill_target 0 j j (omega arith))
