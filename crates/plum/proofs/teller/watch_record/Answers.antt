use Rattle.std.proofs.lemmas.Result.{IfOk-weaker}
use Rattle.plum.proofs.Tellings.{watched_packet, watched_refused}
use Rattle.plum.proofs.teller.watch_record.Goals as goal

pub returns-in-Packet-clause-told : goal.returns-in-Packet-clause-told
returns-in-Packet-clause-told c =
    rw c.in-Packet.is (IfOk-weaker c.text_of.result _ _
    (λ told is. watched_packet c.args.watch.now c.take.new.self c.in-Packet.packet c.take.result
    told c.take.ensures.takes is) c.text_of.ensures)

pub returns-in-Refused-clause-told : goal.returns-in-Refused-clause-told
returns-in-Refused-clause-told c =
    rw c.in-Refused.is (IfOk-weaker c.new-in-Refused.result _ _
    (λ told none. watched_refused c.args.watch.now c.in-Refused.field-0 told none)
    c.new-in-Refused.ensures)
