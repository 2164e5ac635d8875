use Rattle.plum_replay.proofs.Feeding.{HasFed-self, HasFed-then, CanFeed-again}
use Rattle.plum_replay.proofs.Sharing.{CanTakeParts-left, TakeParts-self, TakeParts-then}
use Rattle.plum_replay.proofs.round.go_again.Goals as goal

pub loop-init : goal.loop-init
loop-init g c = record {
  takes = TakeParts-self _;
  fed = HasFed-self _;
  allowed = c.requires.allowed;
}

pub side_by_side-requires-clause-take : goal.side_by_side-requires-clause-take
side_by_side-requires-clause-take g c κs within =
    let can = c.requires.take in
    (can.0, CanTakeParts-left can.0 _ _ c.loop.auto.shares c.loop.invariant.takes can.1)

pub side_by_side-requires-clause-feed : goal.side_by_side-requires-clause-feed
side_by_side-requires-clause-feed g c κs within =
    CanFeed-again _ _ c.loop.invariant.fed c.loop.invariant.allowed c.requires.feed

pub loop-preserved : goal.loop-preserved
loop-preserved g c = record {
  takes =
      TakeParts-then _ _ _ c.loop.auto.shares c.loop.invariant.takes c.side_by_side.ensures.take;
  fed = HasFed-then _ _ _ c.loop.invariant.fed c.side_by_side.ensures.fed;
  allowed = c.in_ok-side_by_side.ensures.allowed;
}

pub returns-in_err-side_by_side-clause-fed : goal.returns-in_err-side_by_side-clause-fed
returns-in_err-side_by_side-clause-fed g c =
    HasFed-then _ _ _ c.loop.invariant.fed c.side_by_side.ensures.fed
