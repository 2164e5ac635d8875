use Rattle.std.proofs.Common.{length, refl, ap, subst, arith}
use Rattle.std.specs.Prelude.{All}
use Rattle.std.proofs.lemmas.List.Elements.{All-head}
use Rattle.plum_lanes.specs.Lanes.{IsForLane}
use Rattle.plum_replay.proofs.Sharing.{CanTakePart-left, TakesPart-self, TakesPart-then}
use Rattle.plum_replay.proofs.Sharing.{TakesPart-one, TakesPart-none}
use Rattle.plum_replay.proofs.round.taking.take_part.Goals as goal

pub packets-init : goal.packets-init
packets-init g c = λ i. TakesPart-self i _

pub clear-requires : goal.clear-requires
clear-requires g c =
    let is = c.requires in
    let can = CanTakePart-left is.0 is.1 _ _ (c.packets.invariant is.1) is.2 in
    (is.0, is.1, can.room.taken, can.room.has)

pub take-requires-clause-few : goal.take-requires-clause-few
take-requires-clause-few g c =
    let is = c.requires in
    let can = CanTakePart-left is.0 is.1 _ _ (c.packets.invariant is.1) is.2 in
    let has = c.clear.ensures.taken is.0 is.1 can.room.taken can.room.has in
    omega (arith, can.room.few, has.counted, ap length c.in-Some.ensures)

pub take-requires-clause-lane : goal.take-requires-clause-lane
take-requires-clause-lane g c =
    let is = c.requires in
    let can = CanTakePart-left is.0 is.1 _ _ (c.packets.invariant is.1) is.2 in (
      is.0,
      is.1,
      can.room.taken,
      c.clear.ensures.taken is.0 is.1 can.room.taken can.room.has,
      All-head (IsForLane is.0 is.1) c.in-Some.packet _
          (subst (All (IsForLane is.0 is.1)) c.in-Some.ensures can.own),
    )

pub packets-preserved : goal.packets-preserved
packets-preserved g c = λ i.
    TakesPart-then i _ _ _ (c.packets.invariant i)
    (TakesPart-one i c.packets.share _ c.clear.new.lane c.in-Some.packet c.in-Some.ensures
    (λ opening taken has. c.clear.ensures.taken opening i taken has)
    (λ opening taken has own. (c.take.ensures.taken opening i taken has own).0))

-- the round stops, or none is left
pub returns-in_default : goal.returns-in_default
returns-in_default g c = λ i.
    TakesPart-then i _ _ _ (c.packets.invariant i)
    (TakesPart-none i c.packets.share _ c.in_default.ensures
    (λ opening taken has. c.clear.ensures.taken opening i taken has))

-- what it made waits on
pub returns : goal.returns
returns g c = λ i.
    TakesPart-then i _ _ _ (c.packets.invariant i)
    (TakesPart-none i c.packets.share _ refl
    (λ opening taken has. c.clear.ensures.taken opening i taken has))
