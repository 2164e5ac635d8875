-- The numbers of a capture's decoded segments fit the fields of lines: they are made of bytes, and
-- of the numbers of records.
use Rattle.std.proofs.Common.{◌≡◌, ℕ, zero, suc, ◌+◌, ◌^◌, ◌<◌, ◌≤◌, List, [], ◌∷◌, ◌++◌, length}
use Rattle.std.proofs.Common.{drop, sum_by, ap, Bool, filter, Ok, Err, Result, inl, inr, refl, sym}
use Rattle.std.proofs.Common.{subst, arith, append_assoc, length-append, eqb, not}
use Rattle.std.proofs.lemmas.Bool.{cases_Bool, cases_lt}
use Rattle.std.proofs.lemmas.List.FromFn.{length-enumerate_from}
use Rattle.std.proofs.lemmas.List.Sums.{sum_by-cons, length-filter, count_by-le-length}
use Rattle.std.proofs.lemmas.Slice.Zip.{AllZip-long}
use Rattle.std.specs.List.{AllByRecursion, AllZip, flat_map, enumerate_from}
use Rattle.std.specs.Str.{bytes_eq}
use Rattle.plum_base.specs.declared.packet.Packet.{Packet}
use Rattle.plum_base.specs.declared.packet.PacketFault.{PacketFault}
use Rattle.plum_base.specs.declared.packet.PacketFault.TheVariants.{Short, Magic, Version, Flags}
use Rattle.plum_base.specs.declared.packet.PacketFault.TheVariants.{Station, Count, Length}
use Rattle.plum_base.specs.declared.packet.RefusedBody.{RefusedBody}
use Rattle.plum_base.specs.declared.sites.StationSite.{StationSite}
use Rattle.plum_base.specs.Sites.{HasCode}
use Rattle.plum_packet.specs.Capture.{LENGTH, record_of, IsBody, AreBytes, mark_body}
use Rattle.plum_packet.specs.Body.{number_at, code_of, IsFirstFault, IsPacket}
use Rattle.plum_packet.specs.Segments.{Decoded, SEGMENT_BODIES, segments_from, segments_of}
use Rattle.plum_packet.specs.Segments.{DecodesAs, IsDecodedSegment, packets_in, refused_in}
use Rattle.plum_packet.specs.Segments.{IsCaptureOf}
use Rattle.plum_packet.specs.Reading.{MOST_RECORDS, HasMoreRecords}
use Rattle.plum_packet.specs.Laws.{HoldEachBody}
use Rattle.plum_packet.proofs.Captures.{byte, AreBytes-drop}
use Rattle.plum_packet.proofs.Samples.{word_fits}
use Rattle.plum_base.specs.Packet.{FitsKey}
use Rattle.plum_text.specs.Fields.{Fits, FitsFault}
use Rattle.plum_text.specs.Texts.{code_of_station}
use Rattle.plum_replay.proofs.Lists.{All-front, All-back, All-pieces, All-passing}

-- The bodies of records are of bytes where these are.
bodies_of_bytes : (bodies : List (List ℕ)) (rest : List ℕ)
    → AreBytes (flat_map record_of bodies ++ rest) → AllByRecursion AreBytes bodies
bodies_of_bytes [] rest are = tt
bodies_of_bytes (body ∷ bodies) rest are =
    let IsByte : ℕ → Type 0 = λ b. b < 256 in
    let more = flat_map record_of bodies in
    let whole = subst AreBytes (append_assoc (record_of body) more rest) are in
    let own = All-front IsByte (record_of body) (more ++ rest) whole in (
      AreBytes-drop LENGTH (record_of body) own,
      bodies_of_bytes bodies rest (All-back IsByte (record_of body) (more ++ rest) whole),
    )

-- The body is of bytes, no longer than a record's can be, and the number of its record fits.
pub record IsNumbered (body : ℕ × List ℕ) : Type 0 where
  pub number : Fits 32 body.0
  pub bytes : AreBytes body.1
  pub short : IsBody body.1

-- bodies from record n on
each_numbered : (n : ℕ) (bodies : List (List ℕ)) → n + length bodies ≤ 2 ^ 32
    → AllByRecursion AreBytes bodies → AllByRecursion IsBody bodies
    → AllByRecursion IsNumbered (enumerate_from n bodies)
each_numbered n [] few bytes short = tt
each_numbered n (body ∷ bodies) few bytes short = (
  record { number = omega arith; bytes = bytes.0; short = short.0 },
  each_numbered (n + 1) bodies (omega arith) bytes.1 short.1,
)

-- a number of one byte or two fits them
one_byte : (offset : ℕ) (body : List ℕ) → AreBytes body → number_at offset 1 body < 2 ^ 8
one_byte offset body bytes =
    let first = byte (drop offset body) 0 (AreBytes-drop offset body bytes) in omega arith

two_bytes : (offset : ℕ) (body : List ℕ) → AreBytes body → number_at offset 2 body < 2 ^ 16
two_bytes offset body bytes =
    let rest = AreBytes-drop offset body bytes in
    let first = byte (drop offset body) 0 rest in
    let second = byte (drop offset body) 1 rest in
    omega arith

-- The numbers of a fault fit.
fault_fits : (stations : List StationSite) (body : List ℕ) (fault : PacketFault) → AreBytes body
    → IsBody body → IsFirstFault stations body fault → FitsFault fault
fault_fits stations body Short bytes short is = tt
fault_fits stations body Magic bytes short is = tt
fault_fits stations body (Version v) bytes short is =
    omega (arith, is.applies.0, one_byte 2 body bytes)
fault_fits stations body (Flags f) bytes short is =
    omega (arith, is.applies.0, one_byte 3 body bytes)
fault_fits stations body (Station code) bytes short is =
    omega (arith, is.applies.0, two_bytes 4 body bytes)
fault_fits stations body (Count n) bytes short is =
    omega (arith, is.applies.0, two_bytes 12 body bytes)
fault_fits stations body (Length expected found) bytes short is =
    let count = two_bytes 12 body bytes in
    (omega (arith, is.applies.0), omega (arith, is.applies.1))

-- a station with a code is listed, and this is its code
listed_code : (stations : List StationSite) (n code : ℕ) → HasCode stations n code
    → (n < length stations) × (code_of_station stations n ≡ code)
listed_code [] n code has = absurd has
listed_code (s ∷ stations) zero code has = (omega arith, has)
listed_code (s ∷ stations) (suc n) code has =
    let more = listed_code stations n code has in (omega arith, more.1)

-- The packet can be told: its station is listed, and the station's code and the key fit.
pub record CanBeSaid (stations : List StationSite) (p : Packet) : Type 0 where
  pub listed : p.station.0 < length stations
  pub code : Fits 16 (code_of_station stations p.station.0)
  pub key : FitsKey p.key

packet_fits : (stations : List StationSite) (body : List ℕ) (p : Packet) → AreBytes body
    → IsPacket stations body p → CanBeSaid stations p
packet_fits stations body p bytes is =
    let at = listed_code stations p.station.0 (code_of body) is.station in
    let code = two_bytes 4 body bytes in
    let boot : p.key.boot ≡ number_at 6 2 body = ap (λ k. k.boot) is.key in
    let number : p.key.number ≡ number_at 8 4 body = ap (λ k. k.number) is.key in
    record {
      listed = at.0;
      code = omega (arith, at.1);
      key = (
        omega (arith, two_bytes 6 body bytes),
        omega (arith, word_fits 8 body (λ i. byte body i bytes)),
      );
    }

-- The refused body can be told: its number and its fault's fit.
abbrev pub CanBeRefused : RefusedBody → Type 0
CanBeRefused r = Fits 32 r.number × FitsFault r.fault

-- What a body decodes as can be told.
abbrev DecodesTo : List StationSite → Result Packet PacketFault → Type 0
DecodesTo stations (Ok p) = CanBeSaid stations p
DecodesTo stations (Err fault) = FitsFault fault

abbrev IsTold : List StationSite → Decoded → Type 0
IsTold stations decoded = Fits 32 decoded.0 × DecodesTo stations decoded.1

result_fits : (stations : List StationSite) (body : List ℕ) (r : Result Packet PacketFault)
    → AreBytes body → IsBody body → DecodesAs stations body r → DecodesTo stations r
result_fits stations body (Ok p) bytes short is = packet_fits stations body p bytes is
result_fits stations body (Err fault) bytes short is =
    fault_fits stations body fault bytes short is

-- So can all of a segment, and of all segments.
segment_fits : (stations : List StationSite) (bodies : List (ℕ × List ℕ)) (results : List Decoded)
    → AllByRecursion IsNumbered bodies → IsDecodedSegment stations bodies results
    → AllByRecursion (IsTold stations) results
segment_fits stations [] [] are is = tt
segment_fits stations [] (d ∷ results) are is = absurd is
segment_fits stations (body ∷ bodies) [] are is = absurd is
segment_fits stations (body ∷ bodies) (d ∷ results) are is =
    let number = are.0.number in (
      (
        omega (arith, is.0.0),
        result_fits stations body.1 d.1 are.0.bytes are.0.short is.0.1,
      ),
      segment_fits stations bodies results are.1 is.1,
    )

segments_fit : (stations : List StationSite) (cut : List (List (ℕ × List ℕ)))
    (segments : List (List Decoded)) → AllByRecursion (AllByRecursion IsNumbered) cut
    → AllZip (IsDecodedSegment stations) cut segments
    → AllByRecursion (AllByRecursion (IsTold stations)) segments
segments_fit stations [] [] are is = tt
segments_fit stations [] (segment ∷ segments) are is = absurd is
segments_fit stations (bodies ∷ cut) [] are is = absurd is
segments_fit stations (bodies ∷ cut) (segment ∷ segments) are is = (
  segment_fits stations bodies segment are.0 is.0,
  segments_fit stations cut segments are.1 is.1,
)

-- the packets and the refused bodies of a segment
packets_fit : (stations : List StationSite) (segment : List Decoded)
    → AllByRecursion (IsTold stations) segment
    → AllByRecursion (CanBeSaid stations) (packets_in segment)
packets_fit stations [] are = tt
packets_fit stations ((n, Ok p) ∷ segment) are = (are.0.1, packets_fit stations segment are.1)
packets_fit stations ((n, Err fault) ∷ segment) are = packets_fit stations segment are.1

refused_fit : (stations : List StationSite) (segment : List Decoded)
    → AllByRecursion (IsTold stations) segment → AllByRecursion CanBeRefused (refused_in segment)
refused_fit stations [] are = tt
refused_fit stations ((n, Ok p) ∷ segment) are = refused_fit stations segment are.1
refused_fit stations ((n, Err fault) ∷ segment) are = (are.0, refused_fit stations segment are.1)

-- there is one segment at least for each mark, and one more
few_segments : (n : ℕ) (so_far : List (ℕ × List ℕ)) (bodies : List (List ℕ))
    → length (segments_from n so_far bodies) ≤ length bodies + 1
few_segments n so_far [] = omega arith
few_segments n so_far (body ∷ bodies) =
    let longer = so_far ++ (n, body) ∷ [] in
    let later = few_segments (n + 1) [] bodies in
    let on = few_segments (n + 1) longer bodies in
    elim (cases_Bool (bytes_eq body mark_body)) [
      | inl is ↦ rw is (omega arith)
      | inr other ↦ elim (cases_Bool (eqb (length so_far + 1) SEGMENT_BODIES)) [
        | inl full ↦ rw (other, full) (omega arith)
        | inr room ↦ rw (other, room) (omega arith)
      ]
    ]

-- decoded segments are as long as they were
total_bodies : (stations : List StationSite) (cut : List (List (ℕ × List ℕ)))
    (segments : List (List Decoded)) → AllZip (IsDecodedSegment stations) cut segments
    → sum_by (λ segment. length segment) segments ≡ length (flat_map (λ segment. segment) cut)
total_bodies stations [] [] is = refl
total_bodies stations [] (segment ∷ segments) is = absurd is
total_bodies stations (bodies ∷ cut) [] is = absurd is
total_bodies stations (bodies ∷ cut) (segment ∷ segments) is =
    let more = total_bodies stations cut segments is.1 in
    let own : length segment ≡ length bodies = AllZip-long _ bodies segment is.0 in
    omega (
      arith,
      sum_by-cons (λ segment. length segment) segment segments,
      length-append bodies (flat_map (λ segment. segment) cut),
    )

-- no more packets and refused bodies than bodies
pub few_packets : (segment : List Decoded)
    → (length (packets_in segment) ≤ length segment)
    × (length (refused_in segment) ≤ length segment)
few_packets [] = (omega arith, omega arith)
few_packets ((n, Ok packet) ∷ segment) =
    let more = few_packets segment in (omega arith, omega arith)
few_packets ((n, Err fault) ∷ segment) =
    let more = few_packets segment in (omega arith, omega arith)

-- The segments' packets and refused bodies can be told, and they and their bodies are not too many.
pub record CanBeCounted (stations : List StationSite) (segments : List (List Decoded))
    : Type 0 where
  pub packets : AllByRecursion (λ s. AllByRecursion (CanBeSaid stations) (packets_in s)) segments
  pub refused : AllByRecursion (λ s. AllByRecursion CanBeRefused (refused_in s)) segments
  pub few : length segments < 2 ^ 32
  pub bodies : Fits 32 (sum_by (λ segment. length segment) segments)

-- what holds in each segment
all_packets_fit : (stations : List StationSite) (segments : List (List Decoded))
    → AllByRecursion (AllByRecursion (IsTold stations)) segments
    → AllByRecursion (λ s. AllByRecursion (CanBeSaid stations) (packets_in s)) segments
all_packets_fit stations [] are = tt
all_packets_fit stations (segment ∷ segments) are =
    (packets_fit stations segment are.0, all_packets_fit stations segments are.1)

all_refused_fit : (stations : List StationSite) (segments : List (List Decoded))
    → AllByRecursion (AllByRecursion (IsTold stations)) segments
    → AllByRecursion (λ s. AllByRecursion CanBeRefused (refused_in s)) segments
all_refused_fit stations [] are = tt
all_refused_fit stations (segment ∷ segments) are =
    (refused_fit stations segment are.0, all_refused_fit stations segments are.1)

-- So it is of a capture of bytes that has no more records than are read.
pub capture_counted : HoldEachBody → (stations : List StationSite) (capture : List ℕ)
    (segments : List (List Decoded)) (tail : ℕ) → AreBytes capture
    → ¬ HasMoreRecords capture MOST_RECORDS → IsCaptureOf stations capture segments tail
    → CanBeCounted stations segments
capture_counted hold stations capture segments tail bytes few is =
    let bodies = is.bodies in
    let records = is.capture_is.records in
    let bound : length bodies ≤ 4294967294 = elim (cases_lt MOST_RECORDS (length bodies)) [
      | inl more ↦ absurd (few (bodies, is.rest, records, more))
      | inr up_to ↦ omega arith
    ] in
    let cut = segments_of bodies in
    let test : ℕ × List ℕ → Bool = λ numbered. not (bytes_eq numbered.1 mark_body) in
    let all = enumerate_from 1 bodies in
    let are =
    each_numbered 1 bodies (omega arith)
    (bodies_of_bytes bodies is.rest (subst AreBytes records.spelled bytes)) records.lengths in
    let told =
    segments_fit stations cut segments
    (All-pieces IsNumbered cut
    (subst (AllByRecursion IsNumbered) (sym (hold bodies)) (All-passing IsNumbered test all are)))
    is.decoded in
    let long : length segments ≡ length cut = AllZip-long _ cut segments is.decoded in
    let count : length (flat_map (λ segment. segment) cut) ≡ length (filter test all) =
    ap length (hold bodies) in
    record {
      packets = all_packets_fit stations segments told;
      refused = all_refused_fit stations segments told;
      few = omega (arith, few_segments 1 [] bodies);
      bodies = omega (
        arith,
        total_bodies stations cut segments is.decoded,
        length-filter test all,
        count_by-le-length test all,
        length-enumerate_from 1 bodies,
      );
    }
