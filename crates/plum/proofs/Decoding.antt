-- Each body decodes, and so does each capture.
use Rattle.std.proofs.Common.{◌≡◌, ◌≢◌, ℕ, suc, ◌+◌, ◌*◌, ◌<◌, ◌≤◌, List, [], ◌∷◌, length}
use Rattle.std.proofs.Common.{map, take, get_or, Option, Some, None, Ok, Err, Result, refl, sym, ap}
use Rattle.std.proofs.Common.{◌∙◌, inl, inr, ◌⊎◌, arith}
use Rattle.std.proofs.lemmas.Bool.{cases_Bool, cases_eq, cases_order, false≢true}
use Rattle.std.proofs.lemmas.List.Elements.{All-cons, All-nil}
use Rattle.std.proofs.lemmas.List.FromFn.{get_or-map-range_with_len, length-map-range_with_len}
use Rattle.std.proofs.lemmas.Option.{slice_get-get_or}
use Rattle.std.proofs.lemmas.Slice.Eq.{bytes_eq-Decides}
use Rattle.std.specs.List.{AllZip, range_with_len}
use Rattle.std.specs.Str.{bytes_eq}
use Rattle.plum_base.specs.declared.numbers.StationNo.{StationNo}
use Rattle.plum_base.specs.declared.packet.Packet.{Packet}
use Rattle.plum_base.specs.declared.packet.PacketFault.{PacketFault}
use Rattle.plum_base.specs.declared.packet.PacketFault.TheVariants.{Short, Version, Flags, Station}
use Rattle.plum_base.specs.declared.packet.PacketFault.TheVariants.{Count, Length, Magic}
use Rattle.plum_base.specs.declared.sites.StationSite.{StationSite}
use Rattle.plum_base.specs.declared.wave.Sample.{Sample}
use Rattle.plum_base.specs.Sites.{HasCode, HasNoCode, IsFoundAt}
use Rattle.plum_packet.proofs.FirstFault.{has_no_fault, is_count, is_flags, is_length, is_magic}
use Rattle.plum_packet.proofs.FirstFault.{is_station, is_version}
use Rattle.plum_packet.specs.Body.{HEADER, SAMPLE, MOST_SAMPLES, AreSamples, IsFirstFault}
use Rattle.plum_packet.specs.Body.{code_of, count_of, key_of, order_of, sample_at}
use Rattle.plum_packet.specs.Capture.{AreBytes}
use Rattle.plum_packet.specs.Laws.{EachIsCapture}
use Rattle.plum_packet.specs.Segments.{Decoded, DecodesAs, IsCaptureOf, IsDecodedSegment}
use Rattle.plum_packet.specs.Segments.{segments_of}
use Rattle.plum.proofs.Begun.{none_has}

-- At each code a station is found, or none.
pub found_at : (stations : List StationSite) (code : ℕ)
    → (found : Option StationNo) × IsFoundAt stations code found
found_at [] code = (None, All-nil (λ (s : StationSite). s.code ≢ code))
found_at (s ∷ stations) code = elim (cases_eq s.code code) [
  | inl same ↦ (Some (record { 0 = 0 }), same)
  | inr differs ↦ later (found_at stations code) differs
]
  where
    later : (found : Option StationNo) × IsFoundAt stations code found → s.code ≢ code
        → (some : Option StationNo) × IsFoundAt (s ∷ stations) code some
    later (None, none) differs =
        (None, All-cons (λ (t : StationSite). t.code ≢ code) s stations differs none)
    later (Some n, has) differs = (Some (record { 0 = suc n.0 }), has)

-- the samples of a body
samples_of : List ℕ → List Sample
samples_of body = map (sample_at body) (range_with_len 0 (count_of body))

are_samples : (body : List ℕ) → AreSamples body (samples_of body)
unfolding samples_of
are_samples body =
    let long = length-map-range_with_len (sample_at body) 0 (count_of body) in
    record {
      count = long;
      each = λ i within.
          slice_get-get_or (samples_of body) i (sample_at body 0) (omega (arith, long))
          ∙ ap Some (get_or-map-range_with_len (sample_at body) 0 (count_of body) i i
          (sample_at body 0) within (omega arith));
    }

module _ (stations : List StationSite) (body : List ℕ) where
  -- what it may decode as
  abbrev Outcome : Type 0
  Outcome = (decoded : Result Packet PacketFault) × DecodesAs stations body decoded

  refused : (fault : PacketFault) → IsFirstFault stations body fault → Outcome
  refused fault is = (Err fault, is)

  short : length body < HEADER → Outcome
  short few = refused Short (record { applies = few; first = λ other below a. none other below })
    where
      none : (other : PacketFault) → order_of other < 1 → ⊥
      none Short below = omega arith
      none Magic below = omega arith
      none (Version v) below = omega arith
      none (Flags f) below = omega arith
      none (Station code) below = omega arith
      none (Count n) below = omega arith
      none (Length expected found) below = omega arith

  module _ (long : HEADER ≤ length body) (magic : take 2 body ≡ 80 ∷ 76 ∷ [])
      (version : get_or body 2 0 ≡ 1) (flags : get_or body 3 0 ≡ 0) (n : StationNo)
      (has : HasCode stations n.0 (code_of body)) where
    -- it is of a listed station
    known : ¬ HasNoCode stations (code_of body)
    known none = none_has stations n.0 (code_of body) none has

    -- its count is right, and so its length decides
    counted : 0 < count_of body → count_of body ≤ MOST_SAMPLES → Outcome
    counted some few =
        let expected : ℕ = HEADER + SAMPLE * count_of body in
        elim (cases_eq expected (length body)) [
          | inl whole ↦ (
            Ok (record { station = n; key = key_of body; wave = samples_of body }),
            record {
              lawful = has_no_fault stations body long magic version flags known some few whole;
              station = has;
              key = refl;
              samples = are_samples body;
            },
          )
          | inr differ ↦ refused (Length expected (length body))
              (is_length stations body long magic version flags known some few expected
              (length body) refl refl differ)
        ]

    -- its station is listed, and so its count decides
    listed : Outcome
    listed =
        let count = count_of body in
        let bad : (count ≡ 0) ⊎ (MOST_SAMPLES < count) → Outcome =
        λ h. refused (Count count)
        (is_count stations body long magic version flags known count refl h) in
        elim (cases_eq count 0) [
          | inl none ↦ bad (inl none)
          | inr some ↦ elim (cases_order count MOST_SAMPLES) [
            | inl most ↦ counted (omega arith) (omega arith)
            | inr apart ↦ elim apart [
              | inl few ↦ counted (omega arith) (omega arith)
              | inr many ↦ bad (inr many)
            ]
          ]
        ]

  module _ (long : HEADER ≤ length body) (magic : take 2 body ≡ 80 ∷ 76 ∷ [])
      (version : get_or body 2 0 ≡ 1) (flags : get_or body 3 0 ≡ 0) where
    -- it has no flags, and so its station decides
    of_station : (found : Option StationNo) → IsFoundAt stations (code_of body) found → Outcome
    of_station None none = refused (Station (code_of body))
        (is_station stations body long magic version flags (code_of body) refl none)
    of_station (Some n) has = listed long magic version flags n has

  -- it has a header, and so that decides
  with_header : HEADER ≤ length body → Outcome
  with_header long = elim (cases_Bool (bytes_eq (take 2 body) (80 ∷ 76 ∷ []))) [
    | inl is ↦
        let magic = (bytes_eq-Decides (take 2 body) (80 ∷ 76 ∷ [])).0 is in
        elim (cases_eq (get_or body 2 0) 1) [
          | inl version ↦ elim (cases_eq (get_or body 3 0) 0) [
            | inl flags ↦
                let found = found_at stations (code_of body) in
                of_station long magic version flags found.0 found.1
            | inr other ↦ refused (Flags (get_or body 3 0))
                (is_flags stations body long magic version other)
          ]
          | inr other ↦ refused (Version (get_or body 2 0))
              (is_version stations body long magic other)
        ]
    | inr not ↦ refused Magic
        (is_magic stations body long (λ same.
        false≢true (sym not ∙ (bytes_eq-Decides (take 2 body) (80 ∷ 76 ∷ [])).1 same)))
  ]

  -- Each body decodes.
  decodes : Outcome
  decodes = elim (cases_order (length body) HEADER) [
    | inl just ↦ with_header (omega arith)
    | inr apart ↦ elim apart [
      | inl few ↦ short few
      | inr more ↦ with_header (omega arith)
    ]
  ]

-- So does each segment,
segment_decodes : (stations : List StationSite) (segment : List (ℕ × List ℕ))
    → (results : List Decoded) × IsDecodedSegment stations segment results
segment_decodes stations [] = ([], tt)
segment_decodes stations (body ∷ segment) =
    let first = decodes stations body.1 in
    let rest = segment_decodes stations segment in
    ((body.0, first.0) ∷ rest.0, ((refl, first.1), rest.1))

segments_decode : (stations : List StationSite) (segments : List (List (ℕ × List ℕ)))
    → (results : List (List Decoded)) × AllZip (IsDecodedSegment stations) segments results
segments_decode stations [] = ([], tt)
segments_decode stations (segment ∷ segments) =
    let first = segment_decodes stations segment in
    let rest = segments_decode stations segments in
    (first.0 ∷ rest.0, (first.1, rest.1))

-- and so do all bytes.
pub capture_decodes : EachIsCapture → (stations : List StationSite) (capture : List ℕ)
    → AreBytes capture
    → (segments : List (List Decoded)) × (tail : ℕ) × IsCaptureOf stations capture segments tail
capture_decodes each stations capture are =
    let cut = each capture are in
    let decoded = segments_decode stations (segments_of cut.0) in (
      decoded.0,
      length cut.1,
      record {
        bodies = cut.0;
        rest = cut.1;
        capture_is = cut.2;
        decoded = decoded.1;
        tail_is = refl;
      },
    )
