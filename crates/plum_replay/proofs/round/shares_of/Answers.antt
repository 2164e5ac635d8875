use Rattle.std.proofs.Common.{◌≡◌, [], ◌∷◌, ◌++◌, map, sym, ap, ◌∙◌, subst}
use Rattle.std.specs.Prelude.{All}
use Rattle.std.proofs.lemmas.List.{map-append}
use Rattle.std.proofs.lemmas.List.Elements.{All-push}
use Rattle.plum_replay.specs.declared.round.taking.Share.{Share}
use Rattle.plum_replay.specs.Pieces.{lane_in}
use Rattle.plum_replay.proofs.round.shares_of.Goals as goal

pub loop-lane-preserved : goal.loop-lane-preserved
loop-lane-preserved c =
    let before = c.loop-lane.invariant in
    let shares = c.loop-lane.shares.items in
    let share : Share = record { lane = c.in-Some.lane; packets = c.new.result } in
    let now = c.in_ok-push.ensures.items in
    record {
      lanes =
          ap (map lane_in) now ∙ map-append lane_in shares (share ∷ [])
          ∙ ap (λ ls. ls ++ c.in-Some.lane ∷ []) before.lanes;
      none =
          subst (All (λ (s : Share). s.packets.items ≡ [])) (sym now)
          (All-push (λ (s : Share). s.packets.items ≡ []) shares share before.none
          c.new.ensures.items);
    }
