-- What a legal transcript has of a station.
use Rattle.std.proofs.Common.{◌≡◌, ℕ, zero, suc, List, [], ◌∷◌, ◌++◌, map, take, refl, sym, ◌∙◌, ap}
use Rattle.std.proofs.lemmas.List.{map-append}
use Rattle.std.specs.List.{flat_map, AllZip}
use Rattle.plum_base.specs.declared.entry.Entry.{Entry}
use Rattle.plum_base.specs.declared.packet.Packet.{Packet}
use Rattle.plum_base.specs.Lane.{lane_of}
use Rattle.plum_seq.specs.Keys.{of_station, kept_after, kept_in_segments_after}
use Rattle.plum_seq.specs.Laws.{KeptInParts}
use Rattle.plum_core.specs.History.{packet_of, packets_of}
use Rattle.plum_core.specs.Transcript.{HoldsByLane}
use Rattle.plum_core.proofs.Lanes.{of_station-lane}
use Rattle.plum_core.proofs.Stations.{of_station-append}

module _ (lanes s : ℕ) where
  -- A part that holds packets lane by lane has of each station what they have.
  packets_of-part : (part : List Entry) (ps : List Packet) → HoldsByLane lanes part ps
      → packets_of s part ≡ of_station s ps
  packets_of-part part ps holds =
      sym (of_station-lane lanes s (map packet_of part))
      ∙ ap (of_station s) (holds (lane_of lanes s))
      ∙ of_station-lane lanes s ps

  module _ (in_parts : KeptInParts) where
    -- So have the parts of the first m segments, where these come after earlier packets.
    pub packets_of-parts : (m : ℕ) (earlier : List Packet) (segments : List (List Packet))
        (parts : List (List Entry))
        → AllZip (HoldsByLane lanes) parts (kept_in_segments_after earlier segments)
        → packets_of s (flat_map (λ part. part) (take m parts))
        ≡ of_station s (kept_after earlier (flat_map (λ segment. segment) (take m segments)))
    unfolding kept_after
    packets_of-parts zero earlier segments parts holds = refl
    packets_of-parts (suc m) earlier [] [] holds = refl
    packets_of-parts (suc m) earlier [] (part ∷ parts) holds = absurd holds
    packets_of-parts (suc m) earlier (segment ∷ segments) [] holds = absurd holds
    packets_of-parts (suc m) earlier (segment ∷ segments) (part ∷ parts) holds =
        let entries = flat_map (λ part. part) (take m parts) in
        let packets = flat_map (λ segment. segment) (take m segments) in
        let first = kept_after earlier segment in
        let others = kept_after (earlier ++ segment) packets in
        ap (of_station s) (map-append packet_of part entries)
        ∙ of_station-append s (map packet_of part) (map packet_of entries)
        ∙ ap (λ ps. ps ++ packets_of s entries) (packets_of-part part first holds.0)
        ∙ ap (λ ps. of_station s first ++ ps)
        (packets_of-parts m (earlier ++ segment) segments parts holds.1)
        ∙ sym (ap (of_station s) (in_parts earlier segment packets)
        ∙ of_station-append s first others)
