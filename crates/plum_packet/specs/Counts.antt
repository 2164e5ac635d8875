-- What becomes of the bodies of a capture: how many of each segment are kept, repeats and refused,
-- and which are refused (the project's own).
use Rattle.std.specs.Prelude.{◌-◌, List, [], length, map, zip}
use Rattle.plum_base.specs.declared.counts.Counts.{Counts}
use Rattle.plum_base.specs.declared.packet.Packet.{Packet}
use Rattle.plum_base.specs.declared.packet.RefusedBody.{RefusedBody}
use Rattle.plum_seq.specs.Keys.{kept_in_segments_after}
use Rattle.plum_packet.specs.Segments.{Decoded, packets_in, refused_in}

-- how many bodies a segment has, decoded, of which these packets are kept, and how many of them are
-- kept, repeats and refused
abbrev pub counts_in : List Decoded → List Packet → Counts
counts_in segment kept = record {
  bodies = length segment;
  kept = length kept;
  repeats = length (packets_in segment) - length kept;
  refused = length (refused_in segment);
}

-- the counts of each of these segments, which come after earlier packets, by its kept packets
abbrev pub counts_after : List Packet → List (List Decoded) → List Counts
counts_after earlier segments =
    map (λ s. counts_in s.0 s.1)
    (zip segments (kept_in_segments_after earlier (map packets_in segments)))

-- the counts of each segment of a capture; a packet is kept or a repeat by all earlier ones, in
-- whatever segment
abbrev pub counts_of : List (List Decoded) → List Counts
counts_of segments = counts_after [] segments

-- the refused bodies of each segment of a capture, in the order of the records
abbrev pub refused_of : List (List Decoded) → List (List RefusedBody)
refused_of segments = map refused_in segments
