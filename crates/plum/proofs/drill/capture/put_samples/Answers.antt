use Rattle.std.proofs.Common.{ℕ, ◌+◌, ◌*◌, List, ◌++◌, sym, ap, ◌∙◌, arith}
use Rattle.std.proofs.lemmas.List.{append-nil}
use Rattle.std.specs.List.{flat_map}
use Rattle.plum_base.specs.declared.wave.Sample.{Sample}
use Rattle.plum_packet.specs.Encoding.{sample_bytes}
use Rattle.plum.specs.DrillCapture.{sample_at}
use Rattle.plum.proofs.Drawing.{state_at_start, state_goes_on}
use Rattle.plum.proofs.Putting.{samples_none, put_sample}
use Rattle.plum.proofs.drill.capture.put_samples.Goals as goal

pub loop-k-init : goal.loop-k-init
loop-k-init c =
    let start : List ℕ = c.args.bytes.now in
    let s = c.args.generator.now in
    record {
      bytes = sym (ap (λ (l : List Sample). start ++ flat_map sample_bytes l)
          (samples_none s c.args.amplitude 0) ∙ append-nil start);
      state = state_at_start s;
    }

pub loop-k-preserved : goal.loop-k-preserved
loop-k-preserved c =
    let s = c.args.generator.now in
    let a = c.args.amplitude in
    let k = c.loop-k._k in
    let so_far = c.loop-k.invariant in
    let drawn = c.sample-sample.ensures in
    record {
      bytes = c.in_ok-extend.ensures.ok
          ∙ put_sample s a k c.args.bytes.now _ _ so_far.bytes
          (c.sample_bytes.ensures.value
          ∙ ap sample_bytes (drawn.drawn ∙ ap (λ (g : ℕ). sample_at g a 0) so_far.state));
      state = state_goes_on s _ _ (3 * k) 3 (3 * (k + 1)) so_far.state drawn.state (omega arith);
    }
