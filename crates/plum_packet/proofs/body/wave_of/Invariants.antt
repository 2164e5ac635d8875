use Rattle.std.proofs.Common.{◌≡◌, ℕ, ◌<◌, length, Some}
use Rattle.std.specs.Prelude.{slice_get}
use Rattle.plum_packet.specs.Body.{sample_at}
use Rattle.plum_packet.proofs.body.wave_of.Given as goal

abbrev pub invariant-loop-i : goal.invariant-loop-i
invariant-loop-i l = record {
  count : length l.wave ≡ l.i;
  each : (k : ℕ) → k < l.i → slice_get l.wave k ≡ Some (sample_at l.bytes k);
}
