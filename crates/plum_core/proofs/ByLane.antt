-- What a history and its packets have of each lane.
use Rattle.std.proofs.Common.{◌≡◌, ◌≢◌, ℕ, ◌%◌, ◌<◌, ◌≤◌, Bool, true, false, cond, List, []}
use Rattle.std.proofs.Common.{◌∷◌, ◌++◌, map, inl, inr, refl, sym, ◌∙◌, ap, append-nil}
use Rattle.std.proofs.Common.{eqb-true, ne_eqb, mod-lt, arith}
use Rattle.std.proofs.lemmas.Bool.{cases_Bool, cases_lt}
use Rattle.std.proofs.lemmas.List.{append_cancel_left, map-append}
use Rattle.std.proofs.lemmas.List.Elements.{filter-append}
use Rattle.std.specs.Prelude.{◌==◌}
use Rattle.std.specs.List.{flat_map, AllZip}
use Rattle.plum_base.specs.declared.entry.Entry.{Entry}
use Rattle.plum_base.specs.declared.packet.Packet.{Packet}
use Rattle.plum_base.specs.declared.setup.Setup.{Setup}
use Rattle.plum_base.specs.Lane.{lane_of}
use Rattle.plum_seq.specs.Keys.{of_station, is_above_all, is_kept, kept_after, kept}
use Rattle.plum_seq.specs.Keys.{kept_in_segments_after}
use Rattle.plum_seq.specs.Laws.{KeptJoins, RepeatLeaves, KeptInParts}
use Rattle.plum_core.specs.History.{packet_of, IsValidHistory}
use Rattle.plum_core.specs.Laws.{PacketsOfLane, KeptIsByLane}
use Rattle.plum_core.specs.Transcript.{of_lane, HoldsByLane, HoldsKeptByLane}
use Rattle.plum_core.proofs.Lanes.{packets_of_lane, of_station-lane}

-- No packet is kept of none.
none_kept : (earlier : List Packet) → kept_after earlier [] ≡ []
unfolding kept_after
none_kept earlier = refl

-- In a valid history the entries of a lane are those of its packets.
pub packets_by_lane : PacketsOfLane
packets_by_lane setup stations lane history valid =
    packets_of_lane setup.lanes lane history (λ earlier e later is. (valid earlier e later is).lane)

module _ (joins : KeptJoins) (leaves : RepeatLeaves) (in_parts : KeptInParts) where
  -- of one packet
  kept_one : (earlier : List Packet) (p : Packet) (b : Bool) → is_kept earlier p ≡ b
      → kept_after earlier (p ∷ []) ≡ cond b (p ∷ []) []
  kept_one earlier p true is =
      append_cancel_left (kept earlier) _ _
      (sym (in_parts [] earlier (p ∷ [])) ∙ joins earlier p is)
  kept_one earlier p false is =
      append_cancel_left (kept earlier) _ _
      (sym (in_parts [] earlier (p ∷ [])) ∙ leaves earlier p is ∙ sym (append-nil (kept earlier)))

  module _ (lanes lane : ℕ) where
    -- Is the packet of the lane?
    abbrev own : Packet → Bool
    own p = lane_of lanes p.station.0 == lane

    -- those that are
    abbrev ours : List Packet → List Packet
    ours = of_lane lanes lane

    -- a list with such a packet in front, and with another
    one_of : (p : Packet) (b : Bool) → own p ≡ b → ours (p ∷ []) ≡ cond b (p ∷ []) []
    one_of p b is = ap (λ b. cond b (p ∷ []) []) is

    -- Whether it is kept, the packets of its lane decide.
    kept_by_own : (earlier : List Packet) (p : Packet) → own p ≡ true
        → is_kept (ours earlier) p ≡ is_kept earlier p
    kept_by_own earlier p is =
        let s : ℕ = p.station.0 in
        let same : of_station s (ours earlier) ≡ of_station s earlier =
        ap (λ l. of_station s (of_lane lanes l earlier)) (sym (eqb-true (lane_of lanes s) lane is))
        ∙ of_station-lane lanes s earlier in
        ap (λ ps. is_above_all (map (λ (q : Packet). q.key) ps) p.key) same

    -- Of one packet the lane has the kept ones where it is of the lane, and none where it is not.
    one_by_lane : (earlier : List Packet) (p : Packet) (b : Bool) → own p ≡ b
        → ours (kept_after earlier (p ∷ []))
        ≡ cond b (kept_after (ours earlier) (p ∷ [])) []
    one_by_lane earlier p true is =
        let same = kept_by_own earlier p is in
        elim (cases_Bool (is_kept earlier p)) [
          | inl k ↦
              ap ours (kept_one earlier p true k) ∙ one_of p true is
              ∙ sym (kept_one (ours earlier) p true (same ∙ k))
          | inr k ↦
              ap ours (kept_one earlier p false k)
              ∙ sym (kept_one (ours earlier) p false (same ∙ k))
        ]
    one_by_lane earlier p false is =
        elim (cases_Bool (is_kept earlier p)) [
          | inl k ↦ ap ours (kept_one earlier p true k) ∙ one_of p false is
          | inr k ↦ ap ours (kept_one earlier p false k)
        ]

    -- what comes after one packet more, whether it is of the lane or not
    rest_by_lane : (earlier ps : List Packet) (p : Packet) (b : Bool) → own p ≡ b
        → cond b (kept_after (ours earlier) (p ∷ [])) []
        ++ kept_after (ours (earlier ++ p ∷ [])) (ours ps)
        ≡ kept_after (ours earlier) (cond b (p ∷ ours ps) (ours ps))
    rest_by_lane earlier ps p true is =
        ap (λ before. kept_after (ours earlier) (p ∷ []) ++ kept_after before (ours ps))
        (filter-append own earlier (p ∷ []) ∙ ap (λ one. ours earlier ++ one) (one_of p true is))
        ∙ sym (in_parts (ours earlier) (p ∷ []) (ours ps))
    rest_by_lane earlier ps p false is =
        ap (λ before. kept_after before (ours ps))
        (filter-append own earlier (p ∷ []) ∙ ap (λ one. ours earlier ++ one) (one_of p false is)
        ∙ append-nil (ours earlier))

    -- The kept packets of the lane are the kept ones of its packets.
    pub kept_of_lane : (earlier packets : List Packet)
        → ours (kept_after earlier packets) ≡ kept_after (ours earlier) (ours packets)
    kept_of_lane earlier [] = ap ours (none_kept earlier) ∙ sym (none_kept (ours earlier))
    kept_of_lane earlier (p ∷ ps) =
        let next : List Packet = earlier ++ p ∷ [] in
        let by_case : (b : Bool) → own p ≡ b → ours (kept_after earlier (p ∷ ps))
        ≡ kept_after (ours earlier) (cond b (p ∷ ours ps) (ours ps)) = λ b is.
        ap ours (in_parts earlier (p ∷ []) ps)
        ∙ filter-append own (kept_after earlier (p ∷ [])) (kept_after next ps)
        ∙ ap (λ front. front ++ ours (kept_after next ps)) (one_by_lane earlier p b is)
        ∙ ap (λ rest. cond b (kept_after (ours earlier) (p ∷ [])) [] ++ rest)
        (kept_of_lane next ps)
        ∙ rest_by_lane earlier ps p b is in
        by_case (own p) refl

  -- What holds the kept packets in file order holds them lane by lane.
  pub kept_is_by_lane : KeptIsByLane
  kept_is_by_lane setup stations history packets valid holds lane less =
      packets_by_lane setup stations lane history valid
      ∙ ap (of_lane setup.lanes lane) holds ∙ kept_of_lane setup.lanes lane [] packets

  module _ (lanes lane : ℕ) where
    -- The parts of a lane are the kept ones of its packets.
    of_lane-parts : (earlier : List Packet) (segments : List (List Packet))
        (parts : List (List Entry))
        → AllZip (HoldsByLane lanes) parts (kept_in_segments_after earlier segments)
        → of_lane lanes lane (map packet_of (flat_map (λ part. part) parts))
        ≡ of_lane lanes lane (kept_after earlier (flat_map (λ segment. segment) segments))
    of_lane-parts earlier [] [] holds = ap (of_lane lanes lane) (sym (none_kept earlier))
    of_lane-parts earlier [] (part ∷ parts) holds = absurd holds
    of_lane-parts earlier (segment ∷ segments) [] holds = absurd holds
    of_lane-parts earlier (segment ∷ segments) (part ∷ parts) holds =
        let own : Packet → Bool = λ p. lane_of lanes p.station.0 == lane in
        let entries = flat_map (λ part. part) parts in
        let packets = flat_map (λ segment. segment) segments in
        let first = kept_after earlier segment in
        let others = kept_after (earlier ++ segment) packets in
        ap (of_lane lanes lane) (map-append packet_of part entries)
        ∙ filter-append own (map packet_of part) (map packet_of entries)
        ∙ ap (λ ps. ps ++ of_lane lanes lane (map packet_of entries)) (holds.0 lane)
        ∙ ap (λ ps. of_lane lanes lane first ++ ps)
        (of_lane-parts (earlier ++ segment) segments parts holds.1)
        ∙ sym (ap (of_lane lanes lane) (in_parts earlier segment packets)
        ∙ filter-append own first others)

  -- No packet is of a lane that there is not.
  none_of : (lanes lane : ℕ) (ps : List Packet) → 0 < lanes → lanes ≤ lane
      → of_lane lanes lane ps ≡ []
  none_of lanes lane [] some above = refl
  none_of lanes lane (p ∷ ps) some above =
      let less : p.station.0 % lanes < lanes = mod-lt p.station.0 some in
      let apart : lane_of lanes p.station.0 ≢ lane = λ q. omega arith in
      ap (λ b. cond b (p ∷ of_lane lanes lane ps) (of_lane lanes lane ps))
      (ne_eqb (lane_of lanes p.station.0) lane apart)
      ∙ none_of lanes lane ps some above

  module _ (setup : Setup) (stations : ℕ) (segments : List (List Packet))
      (parts : List (List Entry)) (segment : List Packet) (part : List Entry) where
    abbrev journal : List Entry
    journal = flat_map (λ part. part) parts

    abbrev packets : List Packet
    packets = flat_map (λ segment. segment) segments

    -- What joins holds lane by lane the kept packets of the segment.
    pub part_of_lanes :
        AllZip (HoldsByLane setup.lanes) parts (kept_in_segments_after [] segments)
        → IsValidHistory setup stations (journal ++ part)
        → HoldsKeptByLane setup.lanes (journal ++ part) (packets ++ segment)
        → HoldsByLane setup.lanes part (kept_after packets segment)
    part_of_lanes complete valid holds lane =
        let own : Packet → Bool = λ p. lane_of setup.lanes p.station.0 == lane in
        let ours : List Packet → List Packet = of_lane setup.lanes lane in
        let within : lane < setup.lanes → ours (map packet_of part)
        ≡ ours (kept_after packets segment) = λ less.
        let front = of_lane-parts setup.lanes lane [] segments parts complete in
        let whole : ours (map packet_of (journal ++ part))
        ≡ ours (kept (packets ++ segment)) =
        sym (packets_by_lane setup stations lane (journal ++ part) valid) ∙ holds lane less
        ∙ sym (kept_of_lane setup.lanes lane [] (packets ++ segment)) in
        append_cancel_left (ours (kept packets)) _ _
        (ap (λ ps. ps ++ ours (map packet_of part)) (sym front)
        ∙ sym (filter-append own (map packet_of journal) (map packet_of part))
        ∙ ap ours (sym (map-append packet_of journal part))
        ∙ whole ∙ ap ours (in_parts [] packets segment)
        ∙ filter-append own (kept packets) (kept_after packets segment)) in
        let some : 0 < setup.lanes = setup.lanes_in_range.0 in
        let beyond : setup.lanes ≤ lane → ours (map packet_of part)
        ≡ ours (kept_after packets segment) = λ above.
        none_of setup.lanes lane (map packet_of part) some above
        ∙ sym (none_of setup.lanes lane (kept_after packets segment) some above) in
        elim (cases_lt lane setup.lanes) [
          | inl less ↦ within less
          | inr above ↦ beyond above
        ]
