-- A segment, body by body.
use Rattle.std.proofs.Common.{◌≡◌, ◌≢◌, ℕ, ◌+◌, ◌≤◌, List, [], ◌∷◌, ◌++◌, length}
use Rattle.std.proofs.Common.{Option, Result, Ok, Err, refl, sym, ap, subst, ◌∙◌, arith}
use Rattle.std.proofs.Common.{append-nil, append_assoc, ◌⊎◌, inl, inr}
use Rattle.std.proofs.lemmas.List.Elements.{filter_map-append}
use Rattle.std.proofs.lemmas.Slice.Zip.{all_zipped_more, AllZip-long}
use Rattle.std.specs.Result.{result_ok, result_err}
use Rattle.std.specs.Option.{option_map}
use Rattle.std.specs.List.{AllZip, flat_map}
use Rattle.plum_base.specs.declared.packet.Packet.{Packet}
use Rattle.plum_base.specs.declared.packet.PacketFault.{PacketFault}
use Rattle.plum_base.specs.declared.packet.RefusedBody.{RefusedBody}
use Rattle.plum_base.specs.declared.sites.StationSite.{StationSite}
use Rattle.plum_packet.specs.declared.segment.Segment.{Segment}
use Rattle.plum_packet.specs.declared.records.Progress.TheVariants.{Open, Ended}
use Rattle.plum_packet.specs.declared.records.RecordsFault.{RecordsFault}
use Rattle.plum_packet.specs.declared.records.RecordsFault.TheVariants.{Read, Limit}
use Rattle.plum_packet.specs.Capture.{mark_body, record_of}
use Rattle.plum_packet.specs.Reading.{HasGiven, HasBegun, bodies_in}
use Rattle.plum_packet.specs.Reading.{HoldsOneMore, HoldsBodies, IsGiven}
use Rattle.plum_packet.specs.Reading.{GoesOnWithin, EndsSegment, TakesRecords}
use Rattle.plum_packet.specs.Records.{RecordsView, StandsAt, GivesRecord, GoesOn, Ends, tail_in}
use Rattle.plum_packet.specs.Segments.{SEGMENT_BODIES, Decoded}
use Rattle.plum_packet.specs.Segments.{DecodesAs, IsDecodedSegment, packets_in, refused_in}
use Rattle.plum_packet.proofs.Captures.{no_more_records}
use Rattle.plum_packet.proofs.Cuts.{cut_at_mark, cut_where_full, cut_within, cut_at_end}

-- each body decodes as a packet or is refused
pub all_decoded : (segment : List Decoded)
    → length segment ≡ length (packets_in segment) + length (refused_in segment)
all_decoded [] = refl
all_decoded ((n, Ok packet) ∷ segment) = omega (arith, all_decoded segment)
all_decoded ((n, Err fault) ∷ segment) = omega (arith, all_decoded segment)

-- so a segment holds as many as it has
bodies_held : (segment : Segment) (decoded : List Decoded) → HoldsBodies segment decoded
    → length decoded ≡ bodies_in segment
bodies_held segment decoded holds =
    omega (arith, all_decoded decoded, ap length holds.packets, ap length holds.refused)

-- one body more is held
holds_more : (old new : Segment) (begun : List Decoded) (body : Decoded) → HoldsBodies old begun
    → HoldsOneMore old new body → HoldsBodies new (begun ++ body ∷ [])
holds_more old new begun body holds more =
    let packet : Decoded → Option Packet = λ decoded. result_ok decoded.1 in
    let refusal : Decoded → Option RefusedBody =
    λ decoded. option_map (λ fault. record { number = decoded.0; fault = fault })
    (result_err decoded.1) in
    record {
      packets = more.packets ∙ ap (λ l. l ++ packets_in (body ∷ [])) holds.packets
          ∙ sym (filter_map-append packet begun (body ∷ []));
      refused = more.refused ∙ ap (λ l. l ++ refused_in (body ∷ [])) holds.refused
          ∙ sym (filter_map-append refusal begun (body ∷ []));
    }

-- where a segment ended and the capture did not, another may come
another : (stations : List StationSite) (capture : List ℕ) (segments : List (List Decoded))
    (reader : RecordsView) (left : Option (List ℕ)) → reader.progress ≡ Open
    → HasGiven stations capture segments reader left → IsGiven stations capture segments reader left
another stations capture segments reader left still_open given = record {
  more = λ _. given;
  last = λ ended. absurd cc;
}

-- In this step the reader gave a record that is no mark, and the segment holds its body.
pub record TakesBody (stations : List StationSite) (old : RecordsView) (left : Option (List ℕ))
    (new : RecordsView) (after : Option (List ℕ)) (segment longer : Segment) : Type 0 where
  pub gives : GivesRecord old left new after
  pub still_open : new.progress ≡ Open
  pub differs : new.last ≢ mark_body
  pub body : Result Packet PacketFault
  pub decodes : DecodesAs stations new.last body
  pub held : HoldsOneMore segment longer (old.given + 1, body)

module _ (stations : List StationSite) (old new : RecordsView)
    (left after : Option (List ℕ)) where
  -- This is what the body decodes as.
  abbrev IsDecoded : ℕ × List ℕ → Decoded → Type 0
  IsDecoded body decoded = (decoded.0 ≡ body.0) × DecodesAs stations body.1 decoded.1

  module _ (segment longer : Segment)
      (takes : TakesBody stations old left new after segment longer) where
    -- the part of the segment that has come is decoded, and as long as the segment
    module _ (capture : List ℕ) (segments : List (List Decoded)) (begun : List Decoded)
        (has : HasBegun stations capture segments begun old left)
        (holds : HoldsBodies segment begun) where
      begun_more : IsDecodedSegment stations (has.so_far ++ (length has.bodies + 1, new.last) ∷ [])
          (begun ++ (old.given + 1, takes.body) ∷ [])
      begun_more =
          let number : old.given + 1 ≡ length has.bodies + 1 = ap (λ n. n + 1) has.stands.count in
          all_zipped_more IsDecoded has.so_far begun (length has.bodies + 1, new.last)
          (old.given + 1, takes.body) has.begun_is (number, takes.decodes)

      as_long : length has.so_far ≡ bodies_in segment
      as_long =
          sym (AllZip-long IsDecoded has.so_far begun has.begun_is)
          ∙ bodies_held segment begun holds

    -- where that does not fill the segment, it goes on
    pub goes_on : bodies_in segment + 1 ≢ SEGMENT_BODIES
        → GoesOnWithin stations old left segment new after longer
    goes_on few capture segments begun has holds =
        let long = as_long capture segments begun has holds in
        let room : length has.so_far + 1 ≢ SEGMENT_BODIES = λ e. few (omega (arith, e, long)) in (
          begun ++ (old.given + 1, takes.body) ∷ [],
          holds_more segment longer begun (old.given + 1, takes.body) holds takes.held,
          record {
            bodies = has.bodies ++ new.last ∷ [];
            stands = takes.gives capture has.bodies has.stands;
            cut = has.cut;
            so_far = has.so_far ++ (length has.bodies + 1, new.last) ∷ [];
            cut_is = cut_within has.bodies has.cut has.so_far new.last has.cut_is takes.differs
                room;
            decoded = has.decoded;
            begun_is = begun_more capture segments begun has holds;
          },
        )

    -- else it ends
    pub ends_full : bodies_in segment + 1 ≡ SEGMENT_BODIES
        → EndsSegment stations old left segment new after longer
    ends_full full capture segments begun has holds =
        let long = as_long capture segments begun has holds in
        let fills : length has.so_far + 1 ≡ SEGMENT_BODIES = omega (arith, full, long) in
        let last = has.so_far ++ (length has.bodies + 1, new.last) ∷ [] in
        let decoded = begun ++ (old.given + 1, takes.body) ∷ [] in (
          decoded,
          holds_more segment longer begun (old.given + 1, takes.body) holds takes.held,
          another stations capture (segments ++ decoded ∷ []) new after takes.still_open (record {
            bodies = has.bodies ++ new.last ∷ [];
            stands = takes.gives capture has.bodies has.stands;
            cut = has.cut ++ last ∷ [];
            cut_is = cut_where_full has.bodies has.cut has.so_far new.last has.cut_is
                takes.differs fills;
            decoded = all_zipped_more (IsDecodedSegment stations) has.cut segments last decoded
                has.decoded (begun_more capture segments begun has holds);
          }),
        )

  -- a mark ends the segment
  pub ends_at_mark : (segment : Segment) → GivesRecord old left new after
      → new.progress ≡ Open → new.last ≡ mark_body
      → EndsSegment stations old left segment new after segment
  ends_at_mark segment gives still_open mark capture segments begun has holds = (
    begun,
    holds,
    another stations capture (segments ++ begun ∷ []) new after still_open (record {
      bodies = has.bodies ++ new.last ∷ [];
      stands = gives capture has.bodies has.stands;
      cut = has.cut ++ has.so_far ∷ [];
      cut_is = cut_at_mark has.bodies has.cut has.so_far new.last has.cut_is mark;
      decoded = all_zipped_more (IsDecodedSegment stations) has.cut segments has.so_far begun
          has.decoded has.begun_is;
    }),
  )

  -- so does the end of the capture, and no other segment comes
  pub ends_with_capture : (segment : Segment) → new.progress ≡ Ended → Ends old left new after
      → old.given ≤ new.limit → EndsSegment stations old left segment new after segment
  ends_with_capture segment ended ends few capture segments begun has holds =
      let whole = ends capture has.bodies has.stands in
      let decoded = all_zipped_more (IsDecodedSegment stations) has.cut segments has.so_far begun
      has.decoded has.begun_is in
      let all = sym (cut_at_end has.bodies has.cut has.so_far has.cut_is) in (
        begun,
        holds,
        record {
          more = λ still_open. absurd cc;
          last = λ _. (
            record {
              bodies = has.bodies;
              rest = new.ahead;
              capture_is = whole.0;
              decoded = subst
                  (λ l. AllZip (IsDecodedSegment stations) l (segments ++ begun ∷ [])) all decoded;
              tail_is = ap (λ progress. tail_in progress new.ahead) ended;
            },
            record {
              none_left = whole.1;
              few = no_more_records capture has.bodies new.ahead new.limit whole.0
                  (omega (arith, has.stands.count, few));
            },
          );
        },
      )

-- a step that gives no record loses none
pub goes_on_in_place : (old new : RecordsView) (left after : Option (List ℕ))
    → GoesOn old left new after → TakesRecords old left new after
goes_on_in_place old new left after on capture bodies stands = (
  [],
  subst (λ l. StandsAt capture l new after) (sym (append-nil bodies)) (on capture bodies stands),
)

-- one that gives a record has it
pub gives_one : (old new : RecordsView) (left after : Option (List ℕ))
    → GivesRecord old left new after → TakesRecords old left new after
gives_one old new left after gives capture bodies stands =
    (new.last ∷ [], gives capture bodies stands)

-- at the end no byte is lost
pub ends_in_place : (old new : RecordsView) (left after : Option (List ℕ))
    → new.given ≡ old.given → Ends old left new after → TakesRecords old left new after
ends_in_place old new left after same ends =
    goes_on_in_place old new left after (λ capture bodies stands.
    let whole = ends capture bodies stands in
    let records = whole.0.records in
    record {
      rest = [];
      told = whole.1;
      records = record {
        spelled = records.spelled
            ∙ ap (λ l. flat_map record_of bodies ++ l) (sym (append-nil new.ahead));
        lengths = records.lengths;
      };
      count = same ∙ stands.count;
    })

-- records taken one after the other
pub TakesRecords-join : (old between new : RecordsView) (left middle after : Option (List ℕ))
    → TakesRecords old left between middle → TakesRecords between middle new after
    → TakesRecords old left new after
TakesRecords-join old between new left middle after first second capture bodies stands =
    let some = first capture bodies stands in
    let more = second capture (bodies ++ some.0) some.1 in (
      some.0 ++ more.0,
      subst (λ l. StandsAt capture l new after) (append_assoc bodies some.0 more.0) more.1,
    )

-- a reader of records has two faults
pub cases_fault : (fault : RecordsFault) → (fault ≡ Read) ⊎ (fault ≡ Limit)
cases_fault Read = inl refl
cases_fault Limit = inr refl
