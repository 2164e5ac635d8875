use Rattle.plum_replay.proofs.Feeding.{HasFed-self, HasFed-then}
use Rattle.plum_replay.proofs.round.feeding.feed_all.Goals as goal

pub loop-init : goal.loop-init
loop-init g c = record { fed = HasFed-self _; few = c.requires.2 }

pub next_turn-requires : goal.next_turn-requires
next_turn-requires g c =
    let is = c.requires in
    (is.0, c.loop.invariant.fed.gather is.0 is.1, c.loop.invariant.few)

pub returns-in_err-next_turn-clause-fed : goal.returns-in_err-next_turn-clause-fed
returns-in_err-next_turn-clause-fed g c =
    HasFed-then _ _ _ c.loop.invariant.fed c.next_turn.ensures.fed

pub loop-preserved-in-One : goal.loop-preserved-in-One
loop-preserved-in-One g c = record {
  fed = HasFed-then _ _ _ c.loop.invariant.fed c.next_turn.ensures.fed;
  few = c.in_ok-next_turn.ensures.few;
}

pub returns-in-Empty-clause-fed : goal.returns-in-Empty-clause-fed
returns-in-Empty-clause-fed g c =
    HasFed-then _ _ _ c.loop.invariant.fed c.next_turn.ensures.fed

pub loop-preserved : goal.loop-preserved
loop-preserved g c = record {
  fed = HasFed-then _ _ _ c.loop.invariant.fed c.next_turn.ensures.fed;
  few = c.in_ok-next_turn.ensures.few;
}
