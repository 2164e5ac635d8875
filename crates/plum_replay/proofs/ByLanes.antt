-- What the lanes of a centre hold together.
use Rattle.std.proofs.Common.{◌≡◌, ℕ, suc, ◌+◌, ◌<◌, ◌≤◌, List, [], ◌∷◌, ◌++◌, length, sym}
use Rattle.std.proofs.Common.{ap, subst, arith, append-nil, length-append}
use Rattle.std.proofs.lemmas.List.{length-map}
use Rattle.std.proofs.Common.{slice_index_or, mod-lt, zero-add}
use Rattle.std.proofs.lemmas.List.Elements.{filter-append}
use Rattle.std.proofs.lemmas.List.Sums.{sum_by-cons, length-filter, count_by-le-length}
use Rattle.std.specs.Prelude.{sum_by, ◌==◌, Bool}
use Rattle.std.specs.List.{range_with_len}
use Rattle.std.specs.Option.{option_to_list}
use Rattle.plum_base.specs.declared.entry.Entry.{Entry}
use Rattle.plum_base.specs.declared.packet.Packet.{Packet}
use Rattle.plum_base.specs.declared.setup.Setup.{Setup}
use Rattle.plum_base.specs.Lane.{lane_of}
use Rattle.plum_base.specs.Sites.{SitesView}
use Rattle.plum_packet.proofs.Counted.{few_kept}
use Rattle.plum_core.specs.History.{packet_of, IsValidHistory}
use Rattle.plum_core.specs.Keys.{kept_after}
use Rattle.plum_core.specs.Laws.{FrontIsValid, LegalAtStart, PartOfLanes, PartIsCounted, PartJoins}
use Rattle.plum_core.specs.Transcript.{of_lane, HoldsByLane, HoldsKeptByLane}
use Rattle.plum_core.specs.Transcript.{no_transcript, with_part}
use Rattle.plum_core.proofs.Counted.{counted_by}
use Rattle.plum_lanes.specs.declared.lanes.Lane.{Lane}
use Rattle.plum_lanes.specs.Lanes.{sent, waiting_in, all_sent, HasTaken, HaveTaken}
use Rattle.plum_lanes.specs.Opening.{Opening}

-- What is known of the laws.
pub record LaneLaws : Type 0 where
  pub front_valid : FrontIsValid
  pub start : LegalAtStart
  pub of_lanes : PartOfLanes
  pub part_joins : PartJoins
  pub counted : PartIsCounted

-- a lane has no more packets than there are
pub few_of_lane : (lanes lane : ℕ) (packets : List Packet)
    → length (of_lane lanes lane packets) ≤ length packets
few_of_lane lanes lane packets =
    let own : Packet → Bool = λ p. lane_of lanes p.station.0 == lane in
    omega (arith, length-filter own packets, count_by-le-length own packets)

pub of_lane-append : (lanes lane : ℕ) (earlier packets : List Packet)
    → of_lane lanes lane (earlier ++ packets)
    ≡ of_lane lanes lane earlier ++ of_lane lanes lane packets
of_lane-append lanes lane earlier packets =
    filter-append (λ (p : Packet). lane_of lanes p.station.0 == lane) earlier packets

module _ (laws : LaneLaws) (setup : Setup) (sites : SitesView) where
  abbrev IsValid : List Entry → Type 0
  IsValid history = IsValidHistory setup (length sites.stations) history

  -- A history that has the kept packets lane by lane is a part of its own.
  first_part : (history : List Entry) (packets : List Packet) → IsValid history
      → HoldsKeptByLane setup.lanes history packets
      → HoldsByLane setup.lanes history (kept_after [] packets)
  first_part history packets valid holds =
      laws.of_lanes setup sites [] 0 no_transcript packets history (laws.start setup sites) valid
      holds

  -- It has no more entries than there are packets.
  pub few_entries : (history : List Entry) (packets : List Packet) → IsValid history
      → HoldsKeptByLane setup.lanes history packets → length history ≤ length packets
  few_entries history packets valid holds =
      let kept = first_part history packets valid holds in
      omega (
        arith,
        laws.counted setup history (kept_after [] packets) kept,
        few_kept [] packets,
      )

  module _ (history part : List Entry) (earlier packets : List Packet)
      (valid : IsValid (history ++ part)) (was : HoldsKeptByLane setup.lanes history earlier)
      (is : HoldsKeptByLane setup.lanes (history ++ part) (earlier ++ packets)) where
    -- What joins it is the kept ones of those that come after.
    pub next_part : HoldsByLane setup.lanes part (kept_after earlier packets)
    next_part =
        let front = laws.front_valid setup (length sites.stations) history part valid in
        let legal = laws.part_joins setup sites [] 0 no_transcript earlier history (omega arith)
        (laws.start setup sites) (first_part history earlier front was) front in
        let whole : history ++ [] ≡ history = append-nil history in
        let all : earlier ++ [] ≡ earlier = append-nil earlier in
        subst (λ ps. HoldsByLane setup.lanes part (kept_after ps packets)) all
        (laws.of_lanes setup sites (earlier ∷ []) 0 (with_part no_transcript history) packets part
        legal (subst (λ h. IsValid (h ++ part)) (sym whole) valid)
        (subst (λ h. HoldsKeptByLane setup.lanes (h ++ part) ((earlier ++ []) ++ packets))
        (sym whole) (subst (λ ps. HoldsKeptByLane setup.lanes (history ++ part) (ps ++ packets))
        (sym all) is)))

    pub few_more : length part ≤ length packets
    few_more =
        omega (
          arith,
          laws.counted setup part (kept_after earlier packets) next_part,
          few_kept earlier packets,
        )

-- a sum over lanes is at most one by their numbers
sum_at_most : {X : Type 0} (f : X → ℕ) (g : ℕ → ℕ) (a : ℕ) (xs : List X)
    → ((i : ℕ) (d : X) → i < length xs → f (slice_index_or xs i d) ≤ g (a + i))
    → sum_by f xs ≤ sum_by g (range_with_len a (length xs))
sum_at_most f g a [] each = omega arith
sum_at_most f g a (x ∷ xs) each =
    let first : f x ≤ g a = subst (λ n. f x ≤ g n) (omega arith) (each 0 x (omega arith)) in
    let rest = sum_at_most f g (a + 1) xs
    (λ i d less. subst (λ n. f (slice_index_or xs i d) ≤ g n) (omega arith)
    (each (suc i) d (omega arith))) in
    omega (
      arith,
      first,
      rest,
      sum_by-cons f x xs,
      sum_by-cons g a (range_with_len (a + 1) (length xs)),
    )

-- A lane sent no more entries than it took packets.
few_sent : (opening : Opening) (number : ℕ) (taken : List Packet) (lane : Lane)
    → HasTaken opening number taken lane → length (sent lane) ≤ length taken
few_sent opening number taken lane has =
    omega (
      arith,
      ap length has.backlog.kept,
      length-map (sent lane ++ option_to_list (waiting_in lane)) packet_of,
      length-append (sent lane) (option_to_list (waiting_in lane)),
      has.kept_is,
      has.counted,
    )

-- Lanes that took their packets of these sent no more entries together.
pub few_sent_by_all : (opening : Opening) (packets : List Packet) (lanes : List Lane)
    → length lanes ≡ opening.basis.setup.lanes
    → HaveTaken opening (λ lane. of_lane opening.basis.setup.lanes lane packets) lanes
    → all_sent lanes ≤ length packets
few_sent_by_all opening packets lanes all taken =
    let count = opening.basis.setup.lanes in
    let some : 0 < count = opening.basis.setup.lanes_in_range.0 in
    let g : ℕ → ℕ = λ i. length (of_lane count i packets) in
    let most = sum_at_most (λ (lane : Lane). length (sent lane)) g 0 lanes
    (λ i d less. subst (λ n. length (sent (slice_index_or lanes i d)) ≤ g n)
    (sym (zero-add i)) (few_sent opening i (of_lane count i packets) (slice_index_or lanes i d)
    (taken i d less))) in
    let joined = counted_by (λ (p : Packet). lane_of count p.station.0) count
    (λ p. mod-lt p.station.0 some) packets in
    omega (arith, most, joined, ap (λ n. sum_by g (range_with_len 0 n)) all)
