use Rattle.std.proofs.Common.{IsSome, sym, subst}
use Rattle.plum_replay.proofs.round.taking.send.Goals as goal

pub offer-requires-clause-lane : goal.offer-requires-clause-lane
offer-requires-clause-lane g c =
    let is = c.requires.lane in
    (is.0, is.1, is.2, c.loop.invariant.taken is.0 is.1 is.2 is.3)

pub returns-in-Sent-clause-taken : goal.returns-in-Sent-clause-taken
returns-in-Sent-clause-taken g c = λ opening number taken has.
    c.offer.ensures.taken opening number taken (c.loop.invariant.taken opening number taken has)

pub returns-then-stops-clause-taken : goal.returns-then-stops-clause-taken
returns-then-stops-clause-taken g c = λ opening number taken has.
    c.offer.ensures.taken opening number taken (c.loop.invariant.taken opening number taken has)

pub loop-preserved : goal.loop-preserved
loop-preserved g c = record {
  waits = subst IsSome (sym c.in-Busy.ensures.offers.1) c.loop.invariant.waits;
  taken = λ opening number taken has.
      c.offer.ensures.taken opening number taken (c.loop.invariant.taken opening number taken has);
}
