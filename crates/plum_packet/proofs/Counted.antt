-- What becomes of bodies, added up.
use Rattle.std.proofs.Common.{◌≡◌, ℕ, ◌≤◌, Bool, List, [], ◌∷◌, ◌++◌, length, map, filter, take}
use Rattle.std.proofs.Common.{refl, ap, ◌∙◌, arith}
use Rattle.std.proofs.lemmas.List.{length-map, map-append}
use Rattle.std.proofs.lemmas.List.Folds.{flat_map-map}
use Rattle.std.proofs.lemmas.List.FromFn.{length-enumerate_from}
use Rattle.std.proofs.lemmas.List.Sums.{length-filter, count_by-le-length}
use Rattle.std.specs.List.{AllByRecursion, enumerate_from, flat_map}
use Rattle.std.specs.Prelude.{zip}
use Rattle.plum_base.specs.Counts.{AddUp}
use Rattle.plum_base.specs.declared.counts.Counts.{Counts}
use Rattle.plum_base.specs.declared.packet.Packet.{Packet}
use Rattle.plum_base.proofs.Pushes.{zip-push}
use Rattle.plum_seq.specs.Keys.{is_kept, kept_after, kept_in_segments_after}
use Rattle.plum_seq.proofs.Segments.{length-kept_in_segments, kept_in_segments-push}
use Rattle.plum_packet.specs.Counts.{counts_in, counts_after}
use Rattle.plum_packet.specs.Segments.{Decoded, packets_in}
use Rattle.plum_packet.proofs.Taking.{all_decoded}

-- no more packets are kept than there are
pub few_kept : (earlier packets : List Packet)
    → length (kept_after earlier packets) ≤ length packets
unfolding kept_after
few_kept earlier packets =
    let numbered = enumerate_from 0 packets in
    let test : ℕ × Packet → Bool = λ at. is_kept (earlier ++ take at.0 packets) at.1 in
    omega (
      arith,
      length-map (filter test numbered) (λ (at : ℕ × Packet). at.1),
      length-filter test numbered,
      count_by-le-length test numbered,
      length-enumerate_from 0 packets,
    )

-- each segment adds up
pub sums : (earlier : List Packet) (segments : List (List Decoded))
    → AllByRecursion AddUp (counts_after earlier segments)
sums earlier [] = tt
sums earlier (segment ∷ segments) =
    let packets = packets_in segment in (
      omega (arith, all_decoded segment, few_kept earlier packets),
      sums (earlier ++ packets) segments,
    )

-- and counts its bodies
pub all : (earlier : List Packet) (segments : List (List Decoded))
    → map (λ c. c.bodies) (counts_after earlier segments) ≡ map length segments
all earlier [] = refl
all earlier (segment ∷ segments) =
    ap (λ l. length segment ∷ l) (all (earlier ++ packets_in segment) segments)

-- one segment more is counted behind the others
pub goes_on : (earlier : List Packet) (segments : List (List Decoded)) (segment : List Decoded)
    → counts_after earlier (segments ++ segment ∷ [])
    ≡ counts_after earlier segments ++ counts_in segment
    (kept_after (earlier ++ flat_map packets_in segments) (packets_in segment)) ∷ []
goes_on earlier segments segment =
    let packets = map packets_in segments in
    let kept = kept_in_segments_after earlier packets in
    let next : List Packet → List Packet =
    λ before. kept_after (earlier ++ before) (packets_in segment) in
    let own : List Decoded × List Packet → Counts = λ s. counts_in s.0 s.1 in
    let long : length kept ≡ length segments =
    length-kept_in_segments earlier packets ∙ length-map segments packets_in in
    ap (λ all. map own (zip (segments ++ segment ∷ []) all))
    (ap (kept_in_segments_after earlier) (map-append packets_in segments (segment ∷ []))
    ∙ kept_in_segments-push earlier packets (packets_in segment)
    ∙ ap (λ before. kept ++ next before ∷ []) (flat_map-map (λ ps. ps) packets_in segments))
    ∙ ap (map own) (zip-push segments kept segment (next (flat_map packets_in segments)) long)
    ∙ map-append own (zip segments kept) ((segment, next (flat_map packets_in segments)) ∷ [])
