-- The journal of a legal transcript can be told.
use Rattle.std.proofs.Common.{◌≡◌, ℕ, ◌+◌, ◌^◌, ◌<◌, ◌≤◌, ◌==◌, Bool, List, [], ◌∷◌, ◌++◌, map}
use Rattle.std.proofs.Common.{length, filter, take, sum_by, All, Option, Some, None, refl, sym, ap}
use Rattle.std.proofs.Common.{subst, arith, append_assoc, length-append}
use Rattle.std.proofs.lemmas.Int.{ints}
use Rattle.std.proofs.lemmas.List.{length-map}
use Rattle.std.proofs.lemmas.List.Elements.{All-from_recursion}
use Rattle.std.proofs.lemmas.List.Sums.{sum_by-cons}
use Rattle.std.specs.List.{AllByRecursion, AllZip, enumerate_from, flat_map}
use Rattle.std.specs.Prelude.{pos, ◌+ℤ◌}
use Rattle.plum_base.specs.declared.entry.Entry.{Entry}
use Rattle.plum_base.specs.declared.note.Note.{Note}
use Rattle.plum_base.specs.declared.numbers.Tenths.{Tenths}
use Rattle.plum_base.specs.declared.packet.Packet.{Packet}
use Rattle.plum_base.specs.declared.setup.Setup.{Setup}
use Rattle.plum_base.specs.declared.sites.StationSite.{StationSite}
use Rattle.plum_base.specs.Lane.{lane_of}
use Rattle.plum_base.specs.Levels.{IsLevelTable}
use Rattle.plum_core.specs.Keys.{is_kept, kept_after}
use Rattle.plum_core.specs.Engine.{IsValueOf}
use Rattle.plum_packet.specs.Segments.{Decoded, packets_in}
use Rattle.plum_packet.proofs.Counted.{few_kept}
use Rattle.plum_core.specs.History.{packet_of, IsEntryAfter, IsValidHistory}
use Rattle.plum_core.specs.Keys.{kept_in_segments_after}
use Rattle.plum_core.specs.Transcript.{HoldsByLane}
use Rattle.plum_base.specs.Packet.{FitsKey}
use Rattle.plum_text.specs.Fields.{Fits, FitsValue}
use Rattle.plum_text.specs.Laws.{CanBeTold}
use Rattle.plum_text.specs.Lines.{FitsJournal}
use Rattle.plum_base.specs.Note.{note_of}
use Rattle.plum_text.specs.Texts.{code_of_station, notes_from, lines_from}
use Rattle.plum_base.proofs.Members.{All-both}
use Rattle.plum_replay.proofs.Lists.{All-made, All-unmade, All-passing, All-pieces}
use Rattle.plum_replay.proofs.ByNumber.{each_by_number, no_longer}
use Rattle.plum_replay.proofs.SameEntries.{IsInItsLane}
use Rattle.plum_replay.proofs.Decodings.{CanBeSaid, CanBeCounted, few_packets}

-- what holds of elements holds of them beside their positions
each_enumerated : {X : Type 0} (P : X → Type 0) (n : ℕ) (xs : List X) → AllByRecursion P xs
    → AllByRecursion (λ at. P at.1) (enumerate_from n xs)
each_enumerated P n [] are = tt
each_enumerated P n (x ∷ xs) are = (are.0, each_enumerated P (n + 1) xs are.1)

-- What holds of packets holds of the kept ones.
kept_fit : (P : Packet → Type 0) (earlier packets : List Packet) → AllByRecursion P packets
    → AllByRecursion P (kept_after earlier packets)
unfolding kept_after
kept_fit P earlier packets are =
    let all = enumerate_from 0 packets in
    let test : ℕ × Packet → Bool = λ at. is_kept (earlier ++ take at.0 packets) at.1 in
    let second : ℕ × Packet → Packet = λ at. at.1 in
    All-made P second (filter test all)
    (All-passing (λ (at : ℕ × Packet). P at.1) test all (each_enumerated P 0 packets are))

module _ (lanes : ℕ) where
  -- the lane of a packet
  abbrev lane_in : Packet → ℕ
  lane_in p = lane_of lanes p.station.0

  -- What holds of packets holds of those of the entries that hold them, which are no more.
  part_fits : (P : Packet → Type 0) (part : List Entry) (packets : List Packet)
      → HoldsByLane lanes part packets → AllByRecursion P packets
      → AllByRecursion (λ e. P (packet_of e)) part
  part_fits P part packets holds are =
      All-unmade P packet_of part
      (each_by_number lane_in P (map packet_of part) (λ lane.
      subst (AllByRecursion P) (sym (holds lane))
      (All-passing P (λ p. lane_in p == lane) packets are)))

  few_in_part : (part : List Entry) (packets : List Packet) → HoldsByLane lanes part packets
      → length part ≤ length packets
  few_in_part part packets holds =
      let few =
      no_longer lane_in (map packet_of part) packets (λ lane.
      let same = ap length (holds lane) in omega arith) in
      omega (arith, length-map part packet_of)

  -- So it is with the kept ones of each segment.
  parts_fit : (P : Packet → Type 0) (parts : List (List Entry)) (earlier : List Packet)
      (segments : List (List Decoded))
      → AllByRecursion (λ s. AllByRecursion P (packets_in s)) segments
      → AllZip (HoldsByLane lanes) parts (kept_in_segments_after earlier (map packets_in segments))
      → AllByRecursion (AllByRecursion (λ e. P (packet_of e))) parts
  parts_fit P [] earlier segments are hold = tt
  parts_fit P (part ∷ parts) earlier [] are hold = absurd hold
  parts_fit P (part ∷ parts) earlier (segment ∷ segments) are hold =
      let packets = packets_in segment in (
        part_fits P part (kept_after earlier packets) hold.0 (kept_fit P earlier packets are.0),
        parts_fit P parts (earlier ++ packets) segments are.1 hold.1,
      )

  -- There are no more parts than segments, and no more entries than bodies.
  pub few_parts : (parts : List (List Entry)) (earlier : List Packet)
      (segments : List (List Decoded))
      → AllZip (HoldsByLane lanes) parts (kept_in_segments_after earlier (map packets_in segments))
      → (length parts ≤ length segments)
      × (length (flat_map (λ part. part) parts) ≤ sum_by (λ segment. length segment) segments)
  few_parts [] earlier segments hold = (omega arith, omega arith)
  few_parts (part ∷ parts) earlier [] hold = absurd hold
  few_parts (part ∷ parts) earlier (segment ∷ segments) hold =
      let packets = packets_in segment in
      let more = few_parts parts (earlier ++ packets) segments hold.1 in
      let own = few_in_part part (kept_after earlier packets) hold.0 in (
        omega arith,
        omega (
          arith,
          few_kept earlier packets,
          (few_packets segment).0,
          sum_by-cons (λ segment. length segment) segment segments,
          length-append part (flat_map (λ part. part) parts),
        ),
      )

-- What holds of each entry that is correct after others holds of all entries of a valid history.
each_valid : (setup : Setup) (stations : ℕ) (P : Entry → Type 0)
    → ((earlier : List Entry) (e : Entry) → IsEntryAfter setup stations earlier e → P e)
    → (earlier rest : List Entry) → IsValidHistory setup stations (earlier ++ rest)
    → AllByRecursion P rest
each_valid setup stations P gives earlier [] valid = tt
each_valid setup stations P gives earlier (e ∷ rest) valid =
    let moved = sym (append_assoc earlier (e ∷ []) rest) in (
      gives earlier e (valid earlier e rest refl),
      each_valid setup stations P gives (earlier ++ e ∷ []) rest
          (subst (IsValidHistory setup stations) moved valid),
    )

-- the same of a history in parts
each_in_parts : (setup : Setup) (stations : ℕ) (P : Entry → Type 0)
    → ((earlier : List Entry) (e : Entry) → IsEntryAfter setup stations earlier e → P e)
    → (parts : List (List Entry)) → IsValidHistory setup stations (flat_map (λ part. part) parts)
    → AllByRecursion (AllByRecursion P) parts
each_in_parts setup stations P gives parts valid =
    All-pieces P parts
    (each_valid setup stations P gives [] (flat_map (λ part. part) parts) valid)

-- Each entry of a valid history is in the lane of its station.
pub in_lanes : (setup : Setup) (stations : ℕ) (parts : List (List Entry))
    → IsValidHistory setup stations (flat_map (λ part. part) parts)
    → AllByRecursion (AllByRecursion (IsInItsLane setup.lanes)) parts
in_lanes setup stations parts valid =
    each_in_parts setup stations (IsInItsLane setup.lanes) (λ earlier e is. is.lane) parts valid

-- A value of a lawful table fits its field.
value_fits : (setup : Setup) (packets : List Packet) (value : Option Tenths)
    → IsLevelTable setup.levels → IsValueOf setup packets value → FitsValue value
value_fits setup packets None table is = tt
value_fits setup packets (Some t) table is =
    let few = table.thresholds.few in
    let base = table.base in
    let listed = is.1.1.listed in
    let sum : t.0 ≡ setup.levels.base.0 +ℤ pos is.0 = ap (λ (t : Tenths). t.0) is.2 in
    omega (arith, ints, sum, base.0, base.1)

values_fit : (setup : Setup) (stations : ℕ) (parts : List (List Entry)) → IsLevelTable setup.levels
    → IsValidHistory setup stations (flat_map (λ part. part) parts)
    → AllByRecursion (AllByRecursion (λ e. FitsValue e.value)) parts
values_fit setup stations parts table valid =
    each_in_parts setup stations (λ e. FitsValue e.value)
    (λ earlier e is. value_fits setup _ e.value table is.value) parts valid

module _ (stations : List StationSite) where
  -- The entry is of a packet that can be told.
  abbrev IsOfSaid : Entry → Type 0
  IsOfSaid e = CanBeSaid stations (packet_of e)

  -- The entry's value fits.
  abbrev HasFitting : Entry → Type 0
  HasFitting e = FitsValue e.value

  -- The note can be told: each of its numbers fits.
  record CanBeNoted (note : ℕ × Note) : Type 0 where
    pub segment : Fits 32 note.0
    pub code : Fits 16 (code_of_station stations note.1.station.0)
    pub key : FitsKey note.1.key
    pub value : FitsValue note.1.value

  -- the notes of entries
  part_noted : (segment : ℕ) (part : List Entry) → segment < 2 ^ 32 → AllByRecursion IsOfSaid part
      → AllByRecursion HasFitting part
      → AllByRecursion CanBeNoted (map (λ e. (segment, note_of e)) part)
  part_noted segment [] few said fit = tt
  part_noted segment (e ∷ part) few said fit = (
    record { segment = few; code = said.0.code; key = said.0.key; value = fit.0 },
    part_noted segment part few said.1 fit.1,
  )

  parts_noted : (segment : ℕ) (parts : List (List Entry)) → segment + length parts ≤ 2 ^ 32
      → AllByRecursion (AllByRecursion IsOfSaid) parts
      → AllByRecursion (AllByRecursion HasFitting) parts
      → AllByRecursion CanBeNoted (notes_from segment parts)
  parts_noted segment [] few said fit = tt
  parts_noted segment (part ∷ parts) few said fit =
      All-both CanBeNoted (map (λ e. (segment, note_of e)) part) (notes_from (segment + 1) parts)
      (part_noted segment part (omega arith) said.0 fit.0)
      (parts_noted (segment + 1) parts (omega arith) said.1 fit.1)

  -- there is one for each entry
  length-notes : (segment : ℕ) (parts : List (List Entry))
      → length (notes_from segment parts) ≡ length (flat_map (λ part. part) parts)
  length-notes segment [] = refl
  length-notes segment (part ∷ parts) = omega (
    arith,
    length-notes (segment + 1) parts,
    length-map {B = ℕ × Note} part (λ e. (segment, note_of e)),
    length-append (map (λ e. (segment, note_of e)) part) (notes_from (segment + 1) parts),
    length-append part (flat_map (λ part. part) parts),
  )

  -- Their lines fit, where the positions do.
  lines_fit : (n : ℕ) (notes : List (ℕ × Note)) → n + length notes ≤ 2 ^ 32
      → AllByRecursion CanBeNoted notes → AllByRecursion FitsJournal (lines_from stations n notes)
  lines_fit n [] few are = tt
  lines_fit n (note ∷ notes) few are =
      let own = are.0 in (
        record {
          n = omega arith;
          segment = own.segment;
          station = own.code;
          key = own.key;
          value = own.value;
        },
        lines_fit (n + 1) notes (omega arith) are.1,
      )

  -- the stations of entries are listed
  listed_part : (part : List Entry) → AllByRecursion IsOfSaid part
      → AllByRecursion (λ e. e.station.0 < length stations) part
  listed_part [] said = tt
  listed_part (e ∷ part) said = (said.0.listed, listed_part part said.1)

  listed_parts : (parts : List (List Entry)) → AllByRecursion (AllByRecursion IsOfSaid) parts
      → AllByRecursion (All (λ e. e.station.0 < length stations)) parts
  listed_parts [] said = tt
  listed_parts (part ∷ parts) said = (
    All-from_recursion (λ e. e.station.0 < length stations) part (listed_part part said.0),
    listed_parts parts said.1,
  )

  -- The parts of a valid history, which hold the kept packets of segments lane by lane, can be
  -- told, where the packets can and are not too many.
  pub journal_told : (setup : Setup) (segments : List (List Decoded)) (parts : List (List Entry))
      → IsLevelTable setup.levels → CanBeCounted stations segments
      → IsValidHistory setup (length stations) (flat_map (λ part. part) parts)
      → AllZip (HoldsByLane setup.lanes) parts (kept_in_segments_after [] (map packets_in segments))
      → CanBeTold stations parts
  journal_told setup segments parts table counted valid hold =
      let said =
      parts_fit setup.lanes (CanBeSaid stations) parts [] segments counted.packets hold in
      let few = few_parts setup.lanes parts [] segments hold in
      let fit = values_fit setup (length stations) parts table valid in
      let notes = notes_from 1 parts in
      let segments_few = counted.few in
      let bodies_few = counted.bodies in
      record {
        listed =
            All-from_recursion (All (λ e. e.station.0 < length stations)) parts
            (listed_parts parts said);
        fits =
            All-from_recursion FitsJournal (lines_from stations 1 notes)
            (lines_fit 1 notes (omega (arith, length-notes 1 parts, few.1))
            (parts_noted 1 parts (omega (arith, few.0)) said fit));
      }
