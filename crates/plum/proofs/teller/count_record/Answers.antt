use Rattle.std.proofs.lemmas.Result.{IfOk-weaker}
use Rattle.plum.proofs.Tellings.{tallied_packet, tallied_no_packet}
use Rattle.plum.proofs.teller.count_record.Goals as goal

pub returns-in-Packet-clause-told : goal.returns-in-Packet-clause-told
returns-in-Packet-clause-told c =
    rw c.in-Packet.is (IfOk-weaker c.new-in-Packet.result _ _
    (λ told none. tallied_packet c.args.tally.now c.take.new.self c.in-Packet.packet told
    c.take.ensures.takes none) c.new-in-Packet.ensures)

pub returns-in-Refused-clause-told : goal.returns-in-Refused-clause-told
returns-in-Refused-clause-told c =
    rw c.in-Refused.is (IfOk-weaker c.refused_text.result _ _
    (λ told is. tallied_no_packet c.args.tally.now c.refuse.new.self c.in-Refused.refused told
    (λ stations bodies. c.refuse.ensures.takes stations c.in-Refused.refused.number
    c.in-Refused.refused.fault bodies) is) c.refused_text.ensures)
