use Rattle.std.proofs.Common.{◌≡◌, ◌*◌}
use Rattle.std.specs.List.{flat_map, range_with_len}
use Rattle.plum.specs.Draws.{state_after}
use Rattle.plum.specs.DrillCapture.{PACKET_DRAWS, second_at}
use Rattle.plum.proofs.drill.capture.drill_capture.Given as goal

abbrev pub invariant-loop-second : goal.invariant-loop-second
invariant-loop-second l = record {
  bytes : l.bytes ≡ flat_map (λ t. second_at l.seed (PACKET_DRAWS * l.stations * t) t l.stations)
      (range_with_len 0 l.second);
  state : l.generator ≡ state_after l.seed (PACKET_DRAWS * l.stations * l.second);
}
