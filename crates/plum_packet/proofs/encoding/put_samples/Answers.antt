use Rattle.std.proofs.Common.{ℕ, ◌<◌, pos, List, ◌++◌, length, take, get_or, sym, ap, ◌∙◌, arith}
use Rattle.std.proofs.lemmas.List.{flat_map_more, take_more}
use Rattle.std.proofs.lemmas.List.Elements.{All-more}
use Rattle.std.specs.List.{flat_map}
use Rattle.plum_base.specs.declared.wave.Sample.{Sample}
use Rattle.plum_packet.specs.Encoding.{sample_bytes, FitsSample}
use Rattle.plum_packet.proofs.encoding.put_samples.Goals as goal

pub loop-sample-preserved : goal.loop-sample-preserved
loop-sample-preserved c =
    let start : List ℕ = c.args.bytes.now in
    let so_far : List ℕ = c.loop-sample.bytes in
    let samples : List Sample = c.args.samples.now in
    let i = c.loop-sample.sample-index in
    let none : Sample = record { x = pos 0; y = pos 0; z = pos 0 } in
    let sample = get_or samples i none in
    let below : i < length samples = omega arith in
    let h = c.loop-sample.invariant in
    record {
      bytes = c.in_ok-extend.ensures.ok
          ∙ ap (λ (l : List ℕ). so_far ++ l) c.sample_bytes.ensures.value
          ∙ ap (λ (l : List ℕ). l ++ sample_bytes sample) h.bytes
          ∙ flat_map_more sample_bytes start (take i samples) sample
          ∙ ap (λ (l : List Sample). start ++ flat_map sample_bytes l)
          (sym (take_more samples i none below));
      ranges = All-more FitsSample samples i none below h.ranges c.sample_bytes.ensures.range;
    }
