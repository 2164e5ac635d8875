use Rattle.std.proofs.Common.{◌≡◌, ◌+◌, ◌*◌, ◌++◌}
use Rattle.std.specs.List.{flat_map, range_with_len}
use Rattle.plum.specs.Draws.{state_after}
use Rattle.plum.specs.DrillCapture.{PACKET_DRAWS, packet_record}
use Rattle.plum.proofs.drill.capture.put_second.Given as goal

abbrev pub invariant-loop-station : goal.invariant-loop-station
invariant-loop-station l = record {
  bytes : l.bytes ≡ l.fn.bytes
      ++ flat_map (λ i. packet_record l.fn.generator (0 + PACKET_DRAWS * i) l.second i)
      (range_with_len 0 l.station);
  state : l.generator ≡ state_after l.fn.generator (PACKET_DRAWS * l.station);
}
