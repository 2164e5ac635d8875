use Rattle.std.proofs.Common.{◌<◌, length, Ok, Err, append-nil, sym, ap}
use Rattle.std.proofs.lemmas.List.Elements.{All-push}
use Rattle.plum_base.proofs.Coded.{listed_code}
use Rattle.plum_packet.proofs.segment.Segment.push.Goals as goal

pub returns-in_ok-push-in-Ok-clause-body : goal.returns-in_ok-push-in-Ok-clause-body
returns-in_ok-push-in-Ok-clause-body c = (
  Ok c.in-Ok.packet,
  c.in-Ok.ensures.packet,
  record {
    packets = c.in_ok-push-in-Ok.ensures.items;
    refused = sym (append-nil c.args.self.now.refused.items);
  },
)

pub returns-in_ok-push-in-Ok-clause-listed : goal.returns-in_ok-push-in-Ok-clause-listed
returns-in_ok-push-in-Ok-clause-listed c =
    let stations = c.args.sites.now.stations in
    let listed = listed_code stations _ _ c.in-Ok.ensures.packet.station in
    λ before. rw c.in_ok-push-in-Ok.ensures.items
    (All-push (λ p. p.station.0 < length stations) c.args.self.now.packets.items c.in-Ok.packet
    before listed.0)

pub returns-in_ok-push-in-Err-Packet-clause-body :
    goal.returns-in_ok-push-in-Err-Packet-clause-body
returns-in_ok-push-in-Err-Packet-clause-body c =
    let fault = c.in-Err-Packet.fault in (
      Err fault,
      (c.in-Err-Packet.ensures.fault fault).0 (ap Err c.in-Err-Packet.field-0-is),
      record {
        packets = sym (append-nil c.args.self.now.packets.items);
        refused = c.in_ok-push-in-Err-Packet.ensures.items;
      },
    )
