use Rattle.std.proofs.Common.{◌≡◌, ℕ, ◌/◌, List, get_or, set, refl, sym, ◌∙◌, ap, subst, arith}
use Rattle.plum_base.specs.declared.numbers.LaneNo.{LaneNo}
use Rattle.plum_base.specs.declared.packet.Packet.{Packet}
use Rattle.plum_base.specs.Lane.{lane_of}
use Rattle.plum_core.specs.declared.station.Station.{Station}
use Rattle.plum_core.specs.declared.station.Taken.TheVariants.{Kept, Repeat}
use Rattle.plum_core.specs.Station.{Stands, Gives}
use Rattle.plum_lanes.specs.declared.lanes.Lane.{Lane}
use Rattle.plum_lanes.specs.Opening.{Opening}
use Rattle.plum_lanes.specs.Lanes.{IsLane, HasTaken, IsForLane}
use Rattle.plum_lanes.proofs.Takes.{HasTaken-more}
use Rattle.plum_lanes.proofs.lanes.Lane.take.Goals as goal

-- the station of the packet, as it stands in the lane
found : (opening : Opening) (number : ℕ) (taken : List Packet) (p : Packet) (lane : Lane)
    (x : Station) → HasTaken opening number taken lane → IsForLane opening number p
    → x ≡ get_or lane.stations.items (p.station.0 / lane.lanes) x
    → Stands x opening.basis.setup p.station.0 taken
found opening number taken p lane x has own here =
    let position : p.station.0 / lane.lanes ≡ p.station.0 / opening.basis.setup.lanes =
    ap (λ n. p.station.0 / n) has.is_lane.belongs.lanes in
    subst (λ station. Stands station opening.basis.setup p.station.0 taken)
    (sym (here ∙ ap (λ m. get_or lane.stations.items m x) position))
    ((has.stand p.station.0 own.0 own.1).1 x)

-- the number of the lane is that of the lane of the station
number_of : (opening : Opening) (number : ℕ) (p : Packet) (lane : Lane) → IsLane opening number lane
    → IsForLane opening number p
    → lane.number ≡ record { 0 = lane_of opening.basis.setup.lanes p.station.0 }
number_of opening number p lane is own =
    let made : ℕ → LaneNo = λ n. record { 0 = n } in
    ap made (is.belongs.number_is ∙ sym own.1)

pub returns-in-Kept-clause-taken : goal.returns-in-Kept-clause-taken
returns-in-Kept-clause-taken c = λ opening number taken has own.
    let l = c.args.self.now in
    let p = c.args.packet in
    let law = c.giving_keeps_backlog.ensures in
    let before = found opening number taken p l c.index_mut.result.now has own
    c.index_mut.ensures.value in
    let entry = c.in-Kept.ensures.gives opening.basis.setup taken before in
    let gives : Gives opening.basis.setup taken
    (record { 0 = lane_of opening.basis.setup.lanes p.station.0 }) p (Kept c.in-Kept.entry) =
    subst (λ n. Gives opening.basis.setup taken n p (Kept c.in-Kept.entry))
    (number_of opening number p l has.is_lane own) entry in
    let position = ap (λ n. set l.stations.items (p.station.0 / n) c.take.new.self)
    has.is_lane.belongs.lanes in (
      HasTaken-more opening number taken p c.take.new.self own law.others law.backlog l _
          (Kept c.in-Kept.entry) has
          (record {
            belongs = record {
              ring = has.is_lane.belongs.ring;
              capacity = has.is_lane.belongs.capacity;
              number_is = has.is_lane.belongs.number_is;
              lanes = has.is_lane.belongs.lanes;
            };
            pass = has.is_lane.pass;
            sends = has.is_lane.sends;
            sends_as = has.is_lane.sends_as;
            basis_is = has.is_lane.basis_is;
          }) c.requires.free gives
          (c.take.ensures.stands opening.basis.setup taken before) position refl refl refl
          (omega arith),
      (entry.kept, refl),
    )

pub returns-in-Repeat-clause-taken : goal.returns-in-Repeat-clause-taken
returns-in-Repeat-clause-taken c = λ opening number taken has own.
    let l = c.args.self.now in
    let p = c.args.packet in
    let law = c.giving_keeps_backlog.ensures in
    let before = found opening number taken p l c.index_mut.result.now has own
    c.index_mut.ensures.value in
    let told = c.in-Repeat.ensures.gives opening.basis.setup taken before in
    let position = ap (λ n. set l.stations.items (p.station.0 / n) c.take.new.self)
    has.is_lane.belongs.lanes in (
      HasTaken-more opening number taken p c.take.new.self own law.others law.backlog l _
          (Repeat c.in-Repeat.last) has
          (record {
            belongs = record {
              ring = has.is_lane.belongs.ring;
              capacity = has.is_lane.belongs.capacity;
              number_is = has.is_lane.belongs.number_is;
              lanes = has.is_lane.belongs.lanes;
            };
            pass = has.is_lane.pass;
            sends = has.is_lane.sends;
            sends_as = has.is_lane.sends_as;
            basis_is = has.is_lane.basis_is;
          }) c.requires.free told
          (c.take.ensures.stands opening.basis.setup taken before) position c.requires.free refl
          (omega arith) (omega arith),
      (told, c.requires.free),
    )
