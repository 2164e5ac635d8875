use Rattle.std.proofs.Common.{◌≡◌, length, map, sym, ap, ◌∙◌, subst}
use Rattle.std.specs.Prelude.{All, IfOk}
use Rattle.std.proofs.lemmas.List.{with_items_is}
use Rattle.std.specs.Vec.{with_items}
use Rattle.plum_replay.specs.Pieces.{CanTakeParts, TakeParts, IsDone, lane_in}
use Rattle.plum_replay.proofs.Feeding.{HasFed-then, CanFeed-again}
use Rattle.plum_replay.proofs.Sharing.{CanTakeParts-shared, CanTakeParts-left, TakeParts-then}
use Rattle.plum_replay.proofs.Sharing.{HaveShared-taken, HaveShared-back}
use Rattle.plum_replay.proofs.round.work.Given as given
use Rattle.plum_replay.proofs.round.work.Goals as goal
use Rattle.plum_replay.proofs.round.work.Goals.{In_ok-go_again}

pub side_by_side-requires-clause-take : goal.side_by_side-requires-clause-take
side_by_side-requires-clause-take g c κs within =
    let share = c.requires.share in (
      share.0,
      subst (CanTakeParts share.0) (sym c.as_mut_slice-parts.ensures.value)
          (CanTakeParts-shared share.0 _ _ share.1 _ c.in_ok-shares.ensures),
    )

-- each can take what is left
pub go_again-requires-clause-take : goal.go_again-requires-clause-take
go_again-requires-clause-take g c κs within =
    let share = c.requires.share in (
      share.0,
      CanTakeParts-left share.0 _ _ c.side_by_side.auto.shares c.side_by_side.ensures.take
          (subst (CanTakeParts share.0) (sym c.as_mut_slice-parts.ensures.value)
          (CanTakeParts-shared share.0 _ _ share.1 _ c.in_ok-shares.ensures)),
    )

pub go_again-requires-clause-feed : goal.go_again-requires-clause-feed
go_again-requires-clause-feed g c κs within =
    CanFeed-again _ _ c.side_by_side.ensures.fed c.in_ok-side_by_side.ensures.allowed
    c.requires.feed

pub returns-in_err-go_again-clause-fed : goal.returns-in_err-go_again-clause-fed
returns-in_err-go_again-clause-fed g c =
    HasFed-then _ _ _ c.side_by_side.ensures.fed c.go_again.ensures.fed

pub returns-clause-fed : goal.returns-clause-fed
returns-clause-fed g c = HasFed-then _ _ _ c.side_by_side.ensures.fed c.go_again.ensures.fed

-- what the lanes' shares are then
now : (g : given.Over) (c : In_ok-go_again g)
    → (with_items c.in_ok-shares.shares c.go_again.new.shares).items ≡ c.go_again.new.shares
now g c =
    let start = c.in_ok-shares.shares in
    with_items_is start c.go_again.new.shares
    (c.go_again.auto.shares ∙ c.side_by_side.auto.shares
    ∙ ap length c.as_mut_slice-parts.ensures.value ∙ sym start.ok.0)

pub lanes_of-requires : goal.lanes_of-requires
lanes_of-requires g c κs within =
    subst (All IsDone) (sym (now g (goal.at.lanes_of-requires g c).In_ok-go_again))
    c.in_ok-go_again.ensures.done κs within

pub returns-clause-share : goal.returns-clause-share
returns-clause-share g c = λ opening can.
    let start = c.in_ok-shares.shares in
    let between = c.side_by_side.new.shares in
    let after = c.go_again.new.shares in
    let slice : c.as_mut_slice-parts.result.now ≡ start.items =
    c.as_mut_slice-parts.ensures.value in
    let long : length after ≡ length start.items =
    c.go_again.auto.shares ∙ c.side_by_side.auto.shares ∙ ap length slice in
    let took : TakeParts c.as_mut_slice-parts.result.now after =
    TakeParts-then _ between after c.side_by_side.auto.shares c.side_by_side.ensures.take
    c.in_ok-go_again.ensures.take in
    HaveShared-back c.lanes_of.result (λ lanes. lanes.items) opening c.args.packets.items
    c.args.lanes.items after
    (subst (λ ss. IfOk c.lanes_of.result (λ lanes. lanes.items ≡ map lane_in ss))
    (now g (goal.at.returns-clause-share g c).In_ok-go_again) c.lanes_of.ensures)
    (HaveShared-taken opening c.args.packets.items c.args.lanes.items can start.items
    c.in_ok-shares.ensures after long (subst (λ ss. TakeParts ss after) slice took)
    c.in_ok-go_again.ensures.done)
