use Rattle.std.proofs.Common.{arith}
use Rattle.plum_centre.proofs.Staying.{StayWhole-self, StayWhole-then, all_sent-same}
use Rattle.plum_centre.proofs.closing.drain.Goals as goal

pub turn_of_all-requires-clause-whole : goal.turn_of_all-requires-clause-whole
turn_of_all-requires-clause-whole g c =
    let whole = c.requires.whole in (whole.0, c.loop.invariant.keep.whole whole.0 whole.1)

pub turn_of_all-requires-clause-few : goal.turn_of_all-requires-clause-few
turn_of_all-requires-clause-few g c =
    let same = all_sent-same _ _ c.loop.invariant.keep.same in omega (arith, same, c.requires.few)

pub loop-preserved : goal.loop-preserved
loop-preserved g c =
    StayWhole-then _ _ _ _ _ _ c.loop.invariant c.turn_of_all.ensures.stay

pub returns-in_err-turn_of_all-clause-stay : goal.returns-in_err-turn_of_all-clause-stay
returns-in_err-turn_of_all-clause-stay g c =
    StayWhole-then _ _ _ _ _ _ c.loop.invariant c.turn_of_all.ensures.stay

pub returns-in-Empty-clause-stay : goal.returns-in-Empty-clause-stay
returns-in-Empty-clause-stay g c =
    StayWhole-then _ _ _ _ _ _ c.loop.invariant c.turn_of_all.ensures.stay

pub loop-init : goal.loop-init
loop-init g c = StayWhole-self _ _
