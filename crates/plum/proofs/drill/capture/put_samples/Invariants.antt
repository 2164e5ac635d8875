use Rattle.std.proofs.Common.{◌≡◌, ◌*◌, ◌++◌}
use Rattle.std.specs.List.{flat_map}
use Rattle.plum_packet.specs.Encoding.{sample_bytes}
use Rattle.plum.specs.Draws.{state_after}
use Rattle.plum.specs.DrillCapture.{samples_at}
use Rattle.plum.proofs.drill.capture.put_samples.Given as goal

abbrev pub invariant-loop-k : goal.invariant-loop-k
invariant-loop-k l = record {
  bytes : l.bytes
      ≡ l.fn.bytes ++ flat_map sample_bytes (samples_at l.fn.generator l.amplitude 0 l._k);
  state : l.generator ≡ state_after l.fn.generator (3 * l._k);
}
