use Rattle.std.proofs.Common.{ℕ, ◌+◌, ◌*◌, ◌<◌, get_or, arith}
use Rattle.plum_packet.specs.Body.{HEADER, SAMPLE}
use Rattle.plum_packet.proofs.Samples.{component}
use Rattle.plum_packet.proofs.body.sample.Goals as goal

pub returns : goal.returns
returns c =
    let body = c.args.bytes.now in
    let start = HEADER + SAMPLE * c.args.i in
    let bytes : (k : ℕ) → get_or body k 0 < 256 = λ k. omega (arith, c.type_inv.bytes k) in
    let x = component start _ body _ bytes (omega arith) c.read_i32.ensures in
    let y = component (start + 4) _ body _ bytes (omega arith) c.read_i32-2.ensures in
    let z = component (start + 8) _ body _ bytes (omega arith) c.read_i32-3.ensures in
    cc
