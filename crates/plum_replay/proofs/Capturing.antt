-- A capture that is read segment by segment.
use Rattle.std.proofs.Common.{◌≡◌, ◌≢◌, ℕ, List, [], ◌++◌, refl}
use Rattle.std.proofs.Common.{sym, ap, subst, ◌∙◌, append_assoc, inl, inr, length}
use Rattle.std.proofs.Common.{Option, Some, Ok, Err}
use Rattle.std.proofs.lemmas.List.Concat.{flat_map-append}
use Rattle.std.specs.List.{flat_map}
use Rattle.plum_base.specs.declared.sites.StationSite.{StationSite}
use Rattle.plum_packet.specs.declared.records.Progress.{Progress}
use Rattle.plum_packet.specs.declared.records.Progress.TheVariants.{Open, Ended, Over}
use Rattle.plum_packet.specs.declared.segments.SegmentFault.{SegmentFault}
use Rattle.plum_packet.specs.declared.segments.SegmentFault.TheVariants as segments
use Rattle.plum_packet.specs.Capture.{record_of, IsBody}
use Rattle.plum_packet.specs.Reading.{MOST_RECORDS, HasGiven, IsGiven, IsReadToEnd}
use Rattle.plum_packet.specs.Reading.{TakesRecords}
use Rattle.plum_packet.specs.Records.{RecordsView, tail_of}
use Rattle.plum_packet.specs.Segments.{Decoded}
use Rattle.plum_replay.specs.declared.fault.ReplayFault.TheVariants.{Read, Limit}
use Rattle.plum_replay.specs.Begun.{AreCut, AreTaken}
use Rattle.plum_replay.specs.Faults.{fault_of_segments}
use Rattle.plum_replay.proofs.Lists.{All-front}

-- a reader that has not ended, nor met a record too many
pub is_open : (p : Progress) → p ≢ Over → p ≢ Ended → p ≡ Open
is_open Open over ended = refl
is_open Ended over ended = absurd (ended refl)
is_open Over over ended = absurd (over refl)

-- the fault of the reader behind a fault of the replay
pub from_read : (fault : SegmentFault) → fault_of_segments fault ≡ Read → fault ≡ segments.Read
from_read segments.Read e = refl
from_read segments.Limit e = absurd cc
from_read segments.NoMemory e = absurd cc

pub from_limit : (fault : SegmentFault) → fault_of_segments fault ≡ Limit → fault ≡ segments.Limit
from_limit segments.Read e = absurd cc
from_limit segments.Limit e = refl
from_limit segments.NoMemory e = absurd cc

-- no value of a result and none of another
pub ok_differs : {T E : Type 0} {a : T} {e : E} → Err e ≡ Ok a → ⊥
ok_differs e = absurd cc

-- Nothing was read of the capture: no segment lies in it.
pub none_cut : (stations : List StationSite) (capture : List ℕ) (left : Option (List ℕ))
    → left ≡ Some capture → AreCut stations capture left []
none_cut stations capture left told = (
  record { limit = MOST_RECORDS; given = 0; last = []; ahead = []; progress = Open },
  record {
    bodies = [];
    stands = record {
      rest = capture;
      told = told;
      records = record { spelled = refl; lengths = tt };
      count = refl;
    };
    cut = [];
    cut_is = λ later. refl;
    decoded = tt;
  },
)

-- The segments that were given lie in what was taken, also where more was taken behind them,
pub given_stay_cut : (stations : List StationSite) (capture : List ℕ)
    (given : List (List Decoded)) (reader : RecordsView) (left : Option (List ℕ))
    (after : RecordsView) (left_after : Option (List ℕ))
    → HasGiven stations capture given reader left → TakesRecords reader left after left_after
    → AreCut stations capture left_after given
given_stay_cut stations capture given reader left after left_after was takes =
    let taken = takes capture was.bodies was.stands in
    let more = taken.0 in
    let stands = taken.1 in
    let front = flat_map record_of was.bodies in
    let others = flat_map record_of more in (
      record after { given = length was.bodies; ahead = others ++ after.ahead },
      record {
        bodies = was.bodies;
        stands = record {
          rest = stands.rest;
          told = stands.told;
          records = record {
            spelled =
                stands.records.spelled
                ∙ ap (λ bytes. bytes ++ (after.ahead ++ stands.rest))
                (flat_map-append record_of was.bodies more)
                ∙ append_assoc front others (after.ahead ++ stands.rest)
                ∙ ap (λ bytes. front ++ bytes) (sym (append_assoc others after.ahead stands.rest));
            lengths = All-front IsBody was.bodies more stands.records.lengths;
          };
          count = refl;
        };
        cut = was.cut;
        cut_is = was.cut_is;
        decoded = was.decoded;
      },
    )

-- and whichever was the last.
pub given_are_taken : (stations : List StationSite) (capture : List ℕ)
    (given : List (List Decoded)) (reader : RecordsView) (left : Option (List ℕ))
    → reader.progress ≢ Over → reader.limit ≡ MOST_RECORDS
    → IsGiven stations capture given reader left
    → AreTaken stations capture left given
given_are_taken stations capture given reader left within limit was =
    by_progress reader.progress refl
  where
    by_progress : (p : Progress) → reader.progress ≡ p → AreTaken stations capture left given
    by_progress Open is = inl (reader, was.more is)
    by_progress Ended is =
        let all = was.last is in
        inr (
          tail_of reader,
          record {
            read = subst (λ n. IsReadToEnd n capture left) limit all.1;
            capture_is = all.0;
          },
        )
    by_progress Over is = absurd (within is)
