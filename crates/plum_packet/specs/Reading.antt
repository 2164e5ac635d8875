-- How far a reader of segments has come.
use Rattle.std.specs.Prelude.{◌≡◌, ℕ, ◌+◌, ◌<◌, ◌≤◌, List, [], ◌∷◌, ◌++◌, length, Option, Some}
use Rattle.std.specs.List.{AllZip}
use Rattle.plum_base.specs.declared.sites.StationSite.{StationSite}
use Rattle.plum_packet.specs.declared.records.Progress.TheVariants.{Open, Ended}
use Rattle.plum_packet.specs.declared.segment.Segment.{Segment}
use Rattle.plum_packet.specs.Capture.{AreRecords, HasRecord}
use Rattle.plum_packet.specs.Records.{RecordsView, StandsAt, tail_of}
use Rattle.plum_packet.specs.Segments.{Decoded, segments_from, segments_of, IsDecodedSegment}
use Rattle.plum_packet.specs.Segments.{packets_in, refused_in, IsCaptureOf}

-- These segments are cut from the bodies, and a part of another: whatever bodies follow, they come
-- first.
abbrev pub IsCutWithin : List (List ℕ) → List (List (ℕ × List ℕ)) → List (ℕ × List ℕ) → Type 0
IsCutWithin bodies cut so_far = (later : List (List ℕ))
    → segments_of (bodies ++ later) ≡ cut ++ segments_from (length bodies + 1) so_far later

-- These segments are cut from the bodies, and no part of another.
abbrev pub IsCutInto : List (List ℕ) → List (List (ℕ × List ℕ)) → Type 0
IsCutInto bodies cut = IsCutWithin bodies cut []

-- Of the capture these segments were given, decoded, and this is left of the input.
pub record HasGiven (stations : List StationSite) (capture : List ℕ)
    (segments : List (List Decoded)) (reader : RecordsView) (left : Option (List ℕ))
    : Type 0 where
  pub bodies : List (List ℕ)
  pub stands : StandsAt capture bodies reader left
  pub cut : List (List (ℕ × List ℕ))
  pub cut_is : IsCutInto bodies cut
  pub decoded : AllZip (IsDecodedSegment stations) cut segments

-- Of the capture these segments were given, these bodies of the next one were taken, all decoded,
-- and this is left of the input.
pub record HasBegun (stations : List StationSite) (capture : List ℕ)
    (segments : List (List Decoded)) (begun : List Decoded) (reader : RecordsView)
    (left : Option (List ℕ)) : Type 0 where
  pub bodies : List (List ℕ)
  pub stands : StandsAt capture bodies reader left
  pub cut : List (List (ℕ × List ℕ))
  pub so_far : List (ℕ × List ℕ)
  pub cut_is : IsCutWithin bodies cut so_far
  pub decoded : AllZip (IsDecodedSegment stations) cut segments
  pub begun_is : IsDecodedSegment stations so_far begun

-- how many bodies a segment holds
abbrev pub bodies_in : Segment → ℕ
bodies_in segment = length segment.packets.items + length segment.refused.items

-- The segment holds one body more, decoded, beside the number of its record.
pub record HoldsOneMore (old new : Segment) (decoded : Decoded) : Type 0 where
  pub packets : new.packets.items ≡ old.packets.items ++ packets_in (decoded ∷ [])
  pub refused : new.refused.items ≡ old.refused.items ++ refused_in (decoded ∷ [])

-- The segment holds the packets and the refused bodies of these.
pub record HoldsBodies (segment : Segment) (decoded : List Decoded) : Type 0 where
  pub packets : segment.packets.items ≡ packets_in decoded
  pub refused : segment.refused.items ≡ refused_in decoded

-- how many records the longest capture has (the project's own)
abbrev pub MOST_RECORDS : ℕ
MOST_RECORDS = 4294967294

-- The capture has more records than this.
abbrev pub HasMoreRecords : List ℕ → ℕ → Type 0
HasMoreRecords capture limit = (bodies : List (List ℕ)) × (rest : List ℕ)
    × AreRecords capture bodies rest × (limit < length bodies)

-- Where this is left of the capture, no more records than this were taken, and another is not
-- whole.
pub record IsWithin (limit : ℕ) (capture : List ℕ) (left : Option (List ℕ)) : Type 0 where
  pub bodies : List (List ℕ)
  pub ahead : List ℕ
  pub rest : List ℕ
  pub told : left ≡ Some rest
  pub records : AreRecords capture bodies (ahead ++ rest)
  pub few : length bodies ≤ limit
  pub no_more : ¬ HasRecord ahead

-- The capture is read to its end: nothing is left of it, and it has no more records than this.
pub record IsReadToEnd (limit : ℕ) (capture : List ℕ) (left : Option (List ℕ)) : Type 0 where
  pub none_left : left ≡ Some []
  pub few : ¬ HasMoreRecords capture limit

-- The capture has more records than the longest one has.
abbrev pub HasTooManyRecords : List ℕ → Type 0
HasTooManyRecords capture = HasMoreRecords capture MOST_RECORDS

-- It has no more than that one.
abbrev pub HasNoneTooMany : List ℕ → Type 0
HasNoneTooMany capture = ¬ HasTooManyRecords capture

-- No more records than the longest capture has were taken.
abbrev pub IsWithinLimit : List ℕ → Option (List ℕ) → Type 0
IsWithinLimit capture left = IsWithin MOST_RECORDS capture left

-- Where a segment was given: another may come, or it was the last, and the capture is read to its
-- end, within the limit of the reader.
pub record IsGiven (stations : List StationSite) (capture : List ℕ)
    (segments : List (List Decoded)) (reader : RecordsView) (left : Option (List ℕ))
    : Type 0 where
  pub more : reader.progress ≡ Open → HasGiven stations capture segments reader left
  pub last : reader.progress ≡ Ended
      → IsCaptureOf stations capture segments (tail_of reader)
      × IsReadToEnd reader.limit capture left

-- A step of a reader, with what was left before and after it: one segment more was given.
abbrev pub GivesSegment : List StationSite → RecordsView → Option (List ℕ)
    → RecordsView → Option (List ℕ) → Segment → Type 0
GivesSegment stations old left new after segment =
    (capture : List ℕ) (segments : List (List Decoded))
    → HasGiven stations capture segments old left
    → (decoded : List Decoded) × HoldsBodies segment decoded
    × IsGiven stations capture (segments ++ decoded ∷ []) new after

-- A step of a reader within a segment, with what was left before and after it: another body may
-- come.
abbrev pub GoesOnWithin : List StationSite → RecordsView → Option (List ℕ) → Segment
    → RecordsView → Option (List ℕ) → Segment → Type 0
GoesOnWithin stations old left segment new after longer =
    (capture : List ℕ) (segments : List (List Decoded)) (begun : List Decoded)
    → HasBegun stations capture segments begun old left → HoldsBodies segment begun
    → (more : List Decoded) × HoldsBodies longer more
    × HasBegun stations capture segments more new after

-- In this step of a reader the segment ended.
abbrev pub EndsSegment : List StationSite → RecordsView → Option (List ℕ) → Segment
    → RecordsView → Option (List ℕ) → Segment → Type 0
EndsSegment stations old left segment new after longer =
    (capture : List ℕ) (segments : List (List Decoded)) (begun : List Decoded)
    → HasBegun stations capture segments begun old left → HoldsBodies segment begun
    → (decoded : List Decoded) × HoldsBodies longer decoded
    × IsGiven stations capture (segments ++ decoded ∷ []) new after

-- In this step records were taken, and no byte was lost.
abbrev pub TakesRecords : RecordsView → Option (List ℕ) → RecordsView → Option (List ℕ) → Type 0
TakesRecords old left new after = (capture : List ℕ) (bodies : List (List ℕ))
    → StandsAt capture bodies old left
    → (more : List (List ℕ)) × StandsAt capture (bodies ++ more) new after

-- In this step a read failed, within the limit of records.
abbrev pub FailsInSegments : List StationSite → RecordsView → Option (List ℕ) → Option (List ℕ)
    → Type 0
FailsInSegments stations old left after = (capture : List ℕ) (segments : List (List Decoded))
    → HasGiven stations capture segments old left → IsWithin old.limit capture after

-- In this step a record too many was met.
abbrev pub ExceedsInSegments : List StationSite → RecordsView → Option (List ℕ) → Type 0
ExceedsInSegments stations old left = (capture : List ℕ) (segments : List (List Decoded))
    → HasGiven stations capture segments old left → HasMoreRecords capture old.limit
