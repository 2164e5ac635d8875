use Rattle.std.proofs.Common.{length-append, arith}
use Rattle.plum_packet.proofs.Samples.{more_samples}
use Rattle.plum_packet.proofs.body.wave_of.Goals as goal

pub loop-i-preserved : goal.loop-i-preserved
loop-i-preserved c =
    let at = c.loop-i in
    let h = at.invariant in
    rw c.in_ok-push.ensures.ok
    record {
      count = simp length-append (omega arith);
      each = more_samples c.args.bytes.now at.wave at.i c.sample.result h.count h.each
          c.sample.ensures;
    }
