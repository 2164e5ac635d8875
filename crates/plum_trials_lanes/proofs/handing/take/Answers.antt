use Rattle.std.proofs.Common.{◌%◌, ap, ◌∙◌, arith}
use Rattle.plum_trials_lanes.proofs.handing.take.Goals as goal

pub take-requires-clause-lane : goal.take-requires-clause-lane
take-requires-clause-lane c =
    let some = c.requires.lane in
    let stations = some.1.0 in
    let listed = c.if-station-stations.false in
    let own = ap (λ n. c.args.packet.station.0 % n) some.1.1 ∙ c.if-station-lanes.false in (
      some.0,
      c.args.number,
      some.2.packets,
      some.2.taken,
      (omega arith, own),
    )

pub returns : goal.returns
returns c = λ opening shape work.
    let stations = shape.0 in
    let listed = c.if-station-stations.false in
    let own = ap (λ n. c.args.packet.station.0 % n) shape.1 ∙ c.if-station-lanes.false in
    let taken = c.take.ensures.taken opening _ work.packets work.taken in
    record { packets = _; taken = (taken (omega arith, own)).0 }
