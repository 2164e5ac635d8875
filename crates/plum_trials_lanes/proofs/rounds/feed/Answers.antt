use Rattle.plum_trials_lanes.proofs.Working.{StaysGather-then}
use Rattle.plum_trials_lanes.proofs.rounds.feed.Goals as goal

pub loop-init : goal.loop-init
loop-init g c = record { stays = λ opening is. is }

pub next-requires-in-loop : goal.next-requires-in-loop
next-requires-in-loop g c = (c.requires.0, c.loop.invariant.stays c.requires.0 c.requires.1)

pub loop-preserved-in-Some-next : goal.loop-preserved-in-Some-next
loop-preserved-in-Some-next g c =
    StaysGather-then _ _ _ c.loop.invariant c.next-in-loop.ensures.gather

pub loop-preserved : goal.loop-preserved
loop-preserved g c = StaysGather-then _ _ _ c.loop.invariant c.next-in-loop.ensures.gather

pub returns-in-None-next : goal.returns-in-None-next
returns-in-None-next g c =
    StaysGather-then _ _ _ c.loop.invariant c.next-in-loop.ensures.gather
