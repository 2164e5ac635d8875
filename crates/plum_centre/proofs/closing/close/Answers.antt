use Rattle.plum_centre.proofs.Staying.{StayWhole-then}
use Rattle.plum_centre.proofs.closing.close.Goals as goal

pub settle-requires : goal.settle-requires
settle-requires g c =
    let whole = c.requires.whole in (whole.0, c.drain.ensures.stay.keep.whole whole.0 whole.1)

pub returns-clause-stay : goal.returns-clause-stay
returns-clause-stay g c =
    rw c.receipt.ensures.same
    (StayWhole-then _ _ _ _ _ _ c.drain.ensures.stay c.settle.ensures.stay)
