use Rattle.std.proofs.Common.{Ok, Err, refl, ap}
use Rattle.plum_base.proofs.Coded.{listed_code}
use Rattle.plum_packet.proofs.bodies.found_in.Goals as goal

pub returns-in-Ok-clause-body : goal.returns-in-Ok-clause-body
returns-in-Ok-clause-body c = (Ok c.in-Ok.packet, c.in-Ok.ensures.packet, refl)

pub returns-in-Ok-clause-listed : goal.returns-in-Ok-clause-listed
returns-in-Ok-clause-listed c =
    (listed_code c.args.sites.now.stations _ _ c.in-Ok.ensures.packet.station).0

pub returns-in-Err-Packet-clause-body : goal.returns-in-Err-Packet-clause-body
returns-in-Err-Packet-clause-body c =
    let fault = c.in-Err-Packet.fault in (
      Err fault,
      (c.in-Err-Packet.ensures.fault fault).0 (ap Err c.in-Err-Packet.field-0-is),
      refl,
    )
