-- The bodies of a capture, one after another.
use Rattle.std.proofs.Common.{◌≡◌, ◌≢◌, ℕ, ◌+◌, ◌≤◌, List, [], ◌∷◌, ◌++◌, length, Option}
use Rattle.std.proofs.Common.{Result, refl, sym, ap, subst, ◌∙◌, arith, append-nil}
use Rattle.std.proofs.Common.{append_assoc, inl, inr, eqb}
use Rattle.std.proofs.lemmas.Bool.{cases_Bool, eqb-true, eqb-false}
use Rattle.std.proofs.lemmas.List.{length_push}
use Rattle.std.proofs.lemmas.List.Concat.{flat_map-append}
use Rattle.std.proofs.lemmas.Slice.Zip.{all_zipped_more, AllZip-long}
use Rattle.std.specs.List.{AllZip}
use Rattle.plum_base.specs.declared.packet.Packet.{Packet}
use Rattle.plum_base.specs.declared.packet.PacketFault.{PacketFault}
use Rattle.plum_base.specs.declared.sites.StationSite.{StationSite}
use Rattle.plum_packet.specs.declared.records.Progress.TheVariants.{Ended}
use Rattle.plum_packet.specs.declared.bodies.Found.{Found}
use Rattle.plum_packet.specs.Bodies.{bodies_of, BodiesView, HasTold, IsToldWhole, found_as}
use Rattle.plum_packet.specs.declared.records.RecordsFault.{RecordsFault}
use Rattle.plum_packet.specs.declared.records.RecordsFault.TheVariants as records
use Rattle.plum_packet.specs.declared.segments.SegmentFault.TheVariants as segments
use Rattle.plum_packet.specs.Counting.{fault_of_records}
use Rattle.plum_packet.specs.Capture.{mark_body, HasRecord}
use Rattle.plum_packet.specs.Reading.{MOST_RECORDS, HasTooManyRecords, IsWithinLimit}
use Rattle.plum_packet.specs.Records.{RecordsView, GivesRecord, GoesOn, Ends, tail_in}
use Rattle.plum_packet.specs.Segments.{SEGMENT_BODIES, Decoded, DecodesAs, IsDecodedSegment}
use Rattle.plum_packet.proofs.Captures.{no_more_records}
use Rattle.plum_packet.proofs.Cuts.{cut_at_mark, cut_where_full, cut_within, cut_at_end}
use Rattle.plum_packet.proofs.Stopping.{takes_none, within, exceeds}

-- the fault of the reader of records behind that of the reader of bodies
pub from_read : (fault : RecordsFault) → fault_of_records fault ≡ segments.Read
    → fault ≡ records.Read
from_read records.Read e = refl
from_read records.Limit e = absurd cc

pub from_limit : (fault : RecordsFault) → fault_of_records fault ≡ segments.Limit
    → fault ≡ records.Limit
from_limit records.Read e = absurd cc
from_limit records.Limit e = refl

-- the bodies with one segment more
bodies-push : (whole : List (List Decoded)) (segment : List Decoded)
    → bodies_of (whole ++ segment ∷ []) ≡ bodies_of whole ++ segment
bodies-push whole segment =
    flat_map-append (λ (l : List Decoded). l) whole (segment ∷ [])
    ∙ ap (λ l. bodies_of whole ++ l) (append-nil segment)

module _ (stations : List StationSite) where
  -- This is what the body decodes as.
  abbrev IsDecoded : ℕ × List ℕ → Decoded → Type 0
  IsDecoded body decoded = (decoded.0 ≡ body.0) × DecodesAs stations body.1 decoded.1

  module _ (capture : List ℕ) (given : List Decoded) (old : BodiesView) (new : RecordsView)
      (left after : Option (List ℕ)) (gives : GivesRecord old.records left new after)
      (told : HasTold stations capture given old left) where
    -- a mark ends the segment
    pub told_at_mark : (next : BodiesView) → next.records ≡ new
        → next.segments ≡ old.segments + 1 → next.begun ≡ 0 → new.last ≡ mark_body
        → HasTold stations capture (given ++ []) next after
    told_at_mark next records segments none mark =
        let has = told.has in
        record {
          whole = told.whole ++ told.begun ∷ [];
          begun = [];
          has = rw records (record {
            bodies = has.bodies ++ new.last ∷ [];
            stands = gives capture has.bodies has.stands;
            cut = has.cut ++ has.so_far ∷ [];
            so_far = [];
            cut_is = cut_at_mark has.bodies has.cut has.so_far new.last has.cut_is mark;
            decoded = all_zipped_more (IsDecodedSegment stations) has.cut told.whole has.so_far
                told.begun has.decoded has.begun_is;
            begun_is = tt;
          });
          segments = omega (arith, segments, told.segments, length_push told.whole told.begun);
          count = none;
          all = append-nil given ∙ told.all ∙ sym (bodies-push told.whole told.begun)
              ∙ sym (append-nil (bodies_of (told.whole ++ told.begun ∷ [])));
        }

    module _ (body : Result Packet PacketFault) (decodes : DecodesAs stations new.last body)
        (differs : new.last ≢ mark_body) where
      abbrev longer : List Decoded
      longer = told.begun ++ (old.records.given + 1, body) ∷ []

      begun_more : IsDecodedSegment stations
          (told.has.so_far ++ (length told.has.bodies + 1, new.last) ∷ []) longer
      begun_more =
          let number : old.records.given + 1 ≡ length told.has.bodies + 1 =
          ap (λ n. n + 1) told.has.stands.count in
          all_zipped_more IsDecoded told.has.so_far told.begun
          (length told.has.bodies + 1, new.last) (old.records.given + 1, body)
          told.has.begun_is (number, decodes)

      as_long : length told.has.so_far ≡ old.begun
      as_long =
          sym (AllZip-long IsDecoded told.has.so_far told.begun told.has.begun_is)
          ∙ sym told.count

      given_more : given ++ (old.records.given + 1, body) ∷ [] ≡ bodies_of told.whole ++ longer
      given_more =
          ap (λ l. l ++ (old.records.given + 1, body) ∷ []) told.all
          ∙ append_assoc (bodies_of told.whole) told.begun ((old.records.given + 1, body) ∷ [])

      -- a body that fills no segment
      pub told_within : (next : BodiesView) → next.records ≡ new
          → next.segments ≡ old.segments → next.begun ≡ old.begun + 1
          → old.begun + 1 ≢ SEGMENT_BODIES
          → HasTold stations capture (given ++ (old.records.given + 1, body) ∷ []) next after
      told_within next records segments count few =
          let has = told.has in
          let room : length has.so_far + 1 ≢ SEGMENT_BODIES = λ e. few (omega (arith, e, as_long))
          in
          record {
            whole = told.whole;
            begun = longer;
            has = rw records (record {
              bodies = has.bodies ++ new.last ∷ [];
              stands = gives capture has.bodies has.stands;
              cut = has.cut;
              so_far = has.so_far ++ (length has.bodies + 1, new.last) ∷ [];
              cut_is = cut_within has.bodies has.cut has.so_far new.last has.cut_is differs room;
              decoded = has.decoded;
              begun_is = begun_more;
            });
            segments = segments ∙ told.segments;
            count = omega (
              arith,
              count,
              told.count,
              length_push told.begun (old.records.given + 1, body),
            );
            all = given_more;
          }

      -- a body that fills its segment
      pub told_full : (next : BodiesView) → next.records ≡ new
          → next.segments ≡ old.segments + 1 → next.begun ≡ 0
          → old.begun + 1 ≡ SEGMENT_BODIES
          → HasTold stations capture (given ++ (old.records.given + 1, body) ∷ []) next after
      told_full next records segments none full =
          let has = told.has in
          let fills : length has.so_far + 1 ≡ SEGMENT_BODIES = omega (arith, full, as_long) in
          let last = has.so_far ++ (length has.bodies + 1, new.last) ∷ [] in
          record {
            whole = told.whole ++ longer ∷ [];
            begun = [];
            has = rw records (record {
              bodies = has.bodies ++ new.last ∷ [];
              stands = gives capture has.bodies has.stands;
              cut = has.cut ++ last ∷ [];
              so_far = [];
              cut_is = cut_where_full has.bodies has.cut has.so_far new.last has.cut_is differs
                  fills;
              decoded = all_zipped_more (IsDecodedSegment stations) has.cut told.whole last longer
                  has.decoded begun_more;
              begun_is = tt;
            });
            segments = omega (arith, segments, told.segments, length_push told.whole longer);
            count = none;
            all = given_more ∙ sym (bodies-push told.whole longer)
                ∙ sym (append-nil (bodies_of (told.whole ++ longer ∷ [])));
          }

      -- one or the other, as the reader counts it
      pub told_body : (found : Found) (number : ℕ) → number ≡ old.records.given + 1
          → new.given ≡ number → found_as number found ≡ (number, body) ∷ []
          → (next : BodiesView)
          → (old.begun + 1 ≢ SEGMENT_BODIES
          → next ≡ record { records = new; segments = old.segments; begun = old.begun + 1 })
          → (old.begun + 1 ≡ SEGMENT_BODIES
          → next ≡ record { records = new; segments = old.segments + 1; begun = 0 })
          → HasTold stations capture (given ++ found_as next.records.given found) next after
      told_body found number is given_is found_is next within full =
          let as_found : (n : ℕ) → n ≡ number
          → found_as n found ≡ (old.records.given + 1, body) ∷ [] =
          λ n e. ap (λ m. found_as m found) e ∙ found_is ∙ ap (λ m. (m, body) ∷ []) is in
          elim (cases_Bool (eqb (old.begun + 1) SEGMENT_BODIES)) [
            | inl fills ↦
                let e = eqb-true _ _ fills in
                let now = full e in
                rw (as_found next.records.given (ap (λ v. v.records.given) now ∙ given_is))
                (told_full next (ap (λ v. v.records) now) (ap (λ v. v.segments) now)
                (ap (λ v. v.begun) now) e)
            | inr room ↦
                let e = eqb-false _ _ room in
                let now = within e in
                rw (as_found next.records.given (ap (λ v. v.records.given) now ∙ given_is))
                (told_within next (ap (λ v. v.records) now) (ap (λ v. v.segments) now)
                (ap (λ v. v.begun) now) e)
          ]

  -- at the end of the capture the open segment is the last
  pub told_whole : (capture : List ℕ) (given : List Decoded) (old new : BodiesView)
      (left after : Option (List ℕ)) → Ends old.records left new.records after
      → new.records.progress ≡ Ended → new.segments ≡ old.segments
      → old.records.given ≤ MOST_RECORDS → HasTold stations capture given old left
      → IsToldWhole stations capture given new after
  told_whole capture given old new left after ends ended segments few told =
      let has = told.has in
      let whole = ends capture has.bodies has.stands in
      let decoded = all_zipped_more (IsDecodedSegment stations) has.cut told.whole has.so_far
      told.begun has.decoded has.begun_is in
      let cut = sym (cut_at_end has.bodies has.cut has.so_far has.cut_is) in
      record {
        segments = told.whole ++ told.begun ∷ [];
        capture_is = record {
          bodies = has.bodies;
          rest = new.records.ahead;
          capture_is = whole.0;
          decoded = subst
              (λ l. AllZip (IsDecodedSegment stations) l (told.whole ++ told.begun ∷ [])) cut
              decoded;
          tail_is = ap (λ progress. tail_in progress new.records.ahead) ended;
        };
        count = omega (arith, segments, told.segments, length_push told.whole told.begun);
        all = told.all ∙ sym (bodies-push told.whole told.begun);
        read = record {
          none_left = whole.1;
          few = no_more_records capture has.bodies new.records.ahead MOST_RECORDS whole.0
              (omega (arith, has.stands.count, few));
        };
      }

  module _ (capture : List ℕ) (given : List Decoded) (old : BodiesView) (new : RecordsView)
      (left after : Option (List ℕ)) (on : GoesOn old.records left new after)
      (same : new.given ≡ old.records.given) (told : HasTold stations capture given old left) where
    -- a read that fails
    pub fails_within : old.records.given ≤ MOST_RECORDS → ¬ HasRecord new.ahead
        → IsWithinLimit capture after
    fails_within few none =
        within capture told.has.bodies old.records new left after MOST_RECORDS told.has.stands
        (takes_none old.records new left after on) (omega (arith, same, few)) none

    -- a record too many
    pub too_many : old.records.given ≡ MOST_RECORDS → HasRecord new.ahead
        → HasTooManyRecords capture
    too_many full found =
        exceeds capture told.has.bodies old.records new left after MOST_RECORDS told.has.stands
        (takes_none old.records new left after on) (same ∙ full) found
