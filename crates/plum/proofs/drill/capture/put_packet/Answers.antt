use Rattle.std.proofs.Common.{ℕ, ◌+◌, List, ◌++◌, ap, ◌∙◌}
use Rattle.std.proofs.lemmas.Result.{on_ok_weaker}
use Rattle.std.specs.List.{flat_map}
use Rattle.plum_packet.specs.Encoding.{header_of, sample_bytes}
use Rattle.plum.specs.DrillCapture.{amplitude_in, samples_at}
use Rattle.plum.proofs.Putting.{joined, packet_spelled}
use Rattle.plum.proofs.drill.capture.put_packet.Goals as goal

pub returns-clause-bytes : goal.returns-clause-bytes
returns-clause-bytes c =
    let start : List ℕ = c.args.bytes.now in
    let s = c.args.generator.now in
    let second = c.args.second in
    let station = c.args.station in
    let long : List ℕ = c.to_be_bytes.result in
    let header : List ℕ = c.header_of.result in
    let samples : List ℕ = flat_map sample_bytes (samples_at s (amplitude_in second) 0 100) in
    let header_is = c.header_of.ensures.value
    ∙ ap (λ (n : ℕ). header_of (station + 1) (record { boot = 1; number = n }) 100)
    c.from.ensures in
    on_ok_weaker c.put_samples.result (λ put.
    joined start _ _ _ _
    (joined start _ _ _ _ c.in_ok-extend.ensures.ok c.in_ok-extend-2.ensures.ok) put
    ∙ ap (λ (a : ℕ). start ++ ((long ++ header) ++ flat_map sample_bytes (samples_at s a 0 100)))
    c.amplitude_in.ensures.value
    ∙ ap (λ (l : List ℕ). start ++ ((long ++ l) ++ samples)) header_is
    ∙ ap (λ (l : List ℕ). start ++ ((l
    ++ header_of (station + 1) (record { boot = 1; number = second }) 100) ++ samples))
    c.to_be_bytes.ensures
    ∙ ap (λ (l : List ℕ). start ++ l) (packet_spelled s second station))
    c.put_samples.ensures.bytes
