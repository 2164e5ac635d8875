use Rattle.std.proofs.Common.{◌≡◌, length, arith}
use Rattle.std.proofs.lemmas.List.{take_at}
use Rattle.plum_packet.proofs.block.Block.complete.Goals as goal

-- `fill` says it of the bytes that the block views
pub returns-clause-whole : goal.returns-clause-whole
returns-clause-whole g c =
    let size = c.self.inside.buffer.len in
    let filled = c.fill.new.buffer in
    let long : length filled ≡ size = omega (
      arith,
      c.fill.auto.buffer,
      c.deref_mut.ensures.len,
      c.deref_mut-2.ensures.len,
      c.move_to_front-self-inside.ensures.long,
    ) in
    rw (take_at filled _ size long) c.fill.ensures.whole

pub returns-clause-short : goal.returns-clause-short
returns-clause-short g c =
    let size = c.self.inside.buffer.len in
    let filled = c.fill.new.buffer in
    let long : length filled ≡ size = omega (
      arith,
      c.fill.auto.buffer,
      c.deref_mut.ensures.len,
      c.deref_mut-2.ensures.len,
      c.move_to_front-self-inside.ensures.long,
    ) in
    rw (take_at filled _ size long) c.fill.ensures.short
