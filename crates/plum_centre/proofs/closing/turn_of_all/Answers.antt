use Rattle.std.proofs.Common.{arith}
use Rattle.plum_centre.proofs.Staying.{StayWhole-turn, StayWhole-then, all_sent-same}
use Rattle.plum_centre.proofs.Turning.{IsDrained-turn}
use Rattle.plum_centre.proofs.closing.turn_of_all.Goals as goal

pub turn-requires-clause-gather : goal.turn-requires-clause-gather
turn-requires-clause-gather g c =
    let whole = c.requires.whole in
    (whole.0, (c.settle.ensures.stay.keep.whole whole.0 whole.1).gather_is)

-- No more is gathered than was sent.
pub turn-requires-clause-few : goal.turn-requires-clause-few
turn-requires-clause-few g c =
    let whole = c.requires.whole in
    let closed = c.settle.ensures.closes.closed whole.0 whole.1 in
    let same = all_sent-same _ _ c.settle.ensures.stay.keep.same in
    omega (arith, closed.counted, same, c.requires.few)

pub returns-clause-stay : goal.returns-clause-stay
returns-clause-stay g c =
    StayWhole-then _ _ _ _ _ _ c.settle.ensures.stay
    (StayWhole-turn _ _ _ c.turn.ensures.gather c.turn.ensures.goes_on)

pub returns-clause-empty : goal.returns-clause-empty
returns-clause-empty g c =
    let whole = c.requires.whole in
    IsDrained-turn whole.0 c.settle.new.lanes c.settle.new.self c.turn.new.self
    (c.settle.ensures.stay.keep.whole whole.0 whole.1).gather_is c.settle.ensures.closes.settled
    c.turn.ensures.published_gathered c.turn.result c.turn.ensures.feeds
