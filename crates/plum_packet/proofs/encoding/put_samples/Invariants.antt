use Rattle.std.proofs.Common.{◌≡◌, ◌++◌, take, All}
use Rattle.std.specs.List.{flat_map}
use Rattle.plum_packet.specs.Encoding.{sample_bytes, FitsSample}
use Rattle.plum_packet.proofs.encoding.put_samples.Given as goal

abbrev pub invariant-loop-sample : goal.invariant-loop-sample
invariant-loop-sample l =
    let done = take l.sample-index l.samples in
    record {
      bytes : l.bytes ≡ l.fn.bytes ++ flat_map sample_bytes done;
      ranges : All FitsSample done;
    }
