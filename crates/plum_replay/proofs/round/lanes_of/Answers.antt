use Rattle.std.proofs.Common.{[], ◌∷◌, ◌++◌, sym, ap, ◌∙◌}
use Rattle.std.proofs.lemmas.List.{map-append}
use Rattle.plum_replay.specs.Pieces.{lane_in}
use Rattle.plum_replay.proofs.round.lanes_of.Goals as goal

pub loop-share-preserved : goal.loop-share-preserved
loop-share-preserved c =
    let share = c.in-Some.share in
    c.in_ok-push.ensures.items ∙ ap (λ ls. ls ++ share.lane ∷ []) c.loop-share.invariant
    ∙ sym (map-append lane_in c.loop-share.yielded (share ∷ []))
