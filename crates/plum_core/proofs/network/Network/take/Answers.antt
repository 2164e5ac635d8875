use Rattle.std.proofs.Common.{◌≡◌, ℕ, List, length-set, refl, ◌∙◌, ap, subst}
use Rattle.plum_base.specs.declared.numbers.LaneNo.{LaneNo}
use Rattle.plum_base.specs.declared.packet.Packet.{Packet}
use Rattle.plum_base.specs.Lane.{lane_of}
use Rattle.plum_core.specs.Station.{Stands, Gives}
use Rattle.plum_core.proofs.Joining.{KeyLaws, known}
use Rattle.plum_core.proofs.Networks.{StandFor-more, HasTaken-more}
use Rattle.plum_core.proofs.network.Network.take.Goals as goal

pub returns-clause-stand : goal.returns-clause-stand
returns-clause-stand c = λ setup given stand.
    let s = c.args.packet.station.0 in
    let before : Stands c.index_mut.result.now setup s (given s) =
    rw c.index_mut.ensures.value (stand.each s _ c.requires.listed) in
    StandFor-more c.args.self.now _ setup given c.args.packet c.take.new.self c.requires.listed refl
    (c.take.ensures.stands setup (given s) before) stand refl

pub returns-clause-gives : goal.returns-clause-gives
returns-clause-gives c = λ setup given stand.
    let p = c.args.packet in
    let s = p.station.0 in
    let before : Stands c.index_mut.result.now setup s (given s) =
    rw c.index_mut.ensures.value (stand.each s _ c.requires.listed) in
    let number : ℕ → LaneNo = λ n. record { 0 = n } in
    let lane : c.lane_of-lane.result ≡ number (lane_of setup.lanes s) =
    ap number (c.lane_of-lane.ensures.value ∙ ap (λ lanes. lane_of lanes s) stand.lanes) in
    subst (λ l. Gives setup (given s) l p c.take.result) lane
    (c.take.ensures.gives setup (given s) before)

pub returns-clause-takes : goal.returns-clause-takes
returns-clause-takes c = λ setup packets history taken.
    let law = c.kept_packets.ensures in
    let laws : KeyLaws =
    known law.joins law.leaves law.by_station law.fresh_alone law.after_kept law.fresh_after_kept in
    let given : ℕ → List Packet = λ _. packets in
    HasTaken-more laws c.args.self.now _ setup packets c.args.packet history taken
    c.requires.listed (length-set _ _ c.take.new.self)
    (returns-clause-stand c setup given taken.stand) c.take.result
    (returns-clause-gives c setup given taken.stand)
