use Rattle.std.proofs.Common.{◌≡◌, ℕ, ◌+◌, ◌*◌, List, [], ◌∷◌, ◌++◌, sym, ap, ◌∙◌, arith}
use Rattle.std.proofs.lemmas.List.{append-nil}
use Rattle.std.proofs.lemmas.Result.{on_ok_weaker}
use Rattle.std.specs.List.{flat_map, range_with_len}
use Rattle.plum.specs.DrillCapture.{PACKET_DRAWS, packet_record}
use Rattle.plum.proofs.Drawing.{state_at_start, state_goes_on}
use Rattle.plum.proofs.Putting.{joined, put_station, second_spelled}
use Rattle.plum.proofs.drill.capture.put_second.Goals as goal

pub loop-station-init : goal.loop-station-init
loop-station-init c = record {
  bytes = let start : List ℕ = c.args.bytes.now in sym (append-nil start);
  state = state_at_start c.args.generator.now;
}

pub loop-station-preserved : goal.loop-station-preserved
loop-station-preserved c =
    let s = c.args.generator.now in
    let second = c.args.second in
    let k = c.loop-station.station in
    let so_far = c.loop-station.invariant in
    let put = c.in_ok-put_packet.ensures in
    record {
      bytes = put.bytes ∙ put_station s second k c.args.bytes.now _ _ so_far.bytes
          (ap (λ (g : ℕ). packet_record g 0 second k) so_far.state);
      state = state_goes_on s _ _ (PACKET_DRAWS * k) PACKET_DRAWS (PACKET_DRAWS * (k + 1))
          so_far.state put.state (omega arith);
    }

pub returns-clause-bytes : goal.returns-clause-bytes
returns-clause-bytes c =
    let start : List ℕ = c.args.bytes.now in
    let s = c.args.generator.now in
    let second = c.args.second in
    let record_at : ℕ → List ℕ = λ i. packet_record s (0 + PACKET_DRAWS * i) second i in
    let all : c.loop-station.station ≡ c.args.stations = omega arith in
    on_ok_weaker c.extend.result (λ put.
    joined start _ _ _ _ c.loop-station.invariant.bytes put
    ∙ ap (λ (n : ℕ). start ++ (flat_map record_at (range_with_len 0 n)
    ++ (0 ∷ 2 ∷ 77 ∷ 75 ∷ []))) all
    ∙ ap (λ (l : List ℕ). start ++ l) (second_spelled s second c.args.stations))
    c.extend.ensures.ok
