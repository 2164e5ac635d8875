use Rattle.std.proofs.Common.{◌≡◌, length, take, ap, ◌∙◌, arith}
use Rattle.std.proofs.lemmas.List.{take_at}
use Rattle.plum_packet.proofs.last_body.LastBody.set.Goals as goal

pub returns : goal.returns
returns c =
    let count = length c.args.body.now in
    let size = c.self.inside.buffer.len in
    let written = c.write_front.new.buffer in
    let long : length written ≡ size =
    omega (arith, c.write_front.ensures.long, c.deref_mut.ensures.len) in
    ap (take count) (take_at written _ size long) ∙ c.write_front.ensures.front
