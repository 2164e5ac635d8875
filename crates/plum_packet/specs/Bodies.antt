-- A reader of the bodies of a capture, one after another, and how far it has come.
use Rattle.std.specs.Prelude.{◌≡◌, ℕ, ◌+◌, ◌<◌, List, [], ◌∷◌, ◌++◌, length, Option, Ok, Err}
use Rattle.std.specs.Prelude.{⊤}
use Rattle.std.specs.List.{flat_map}
use Rattle.plum_base.specs.declared.sites.StationSite.{StationSite}
use Rattle.plum_packet.specs.declared.bodies.Found.{Found}
use Rattle.plum_packet.specs.declared.bodies.Found.TheVariants.{Mark, Packet, Refused}
use Rattle.plum_packet.specs.Reading.{HasBegun, HasTooManyRecords, IsReadToEnd, MOST_RECORDS}
use Rattle.plum_packet.specs.Reading.{IsWithinLimit}
use Rattle.plum_packet.specs.Records.{RecordsView, tail_of}
use Rattle.plum_packet.specs.Segments.{Decoded, IsCaptureOf}

-- the bodies of these segments, in order
abbrev pub bodies_of : List (List Decoded) → List Decoded
bodies_of segments = flat_map (λ segment. segment) segments

-- what a reader shows: how far it has come in the records, how many segments have begun, and how
-- many bodies the last of these has so far
pub record BodiesView : Type 0 where
  pub records : RecordsView
  pub segments : ℕ
  pub begun : ℕ

-- Of the capture these bodies were given, decoded, and this is left of the input: they are whole
-- segments and the beginning of another.
pub record HasTold (stations : List StationSite) (capture : List ℕ) (given : List Decoded)
    (reader : BodiesView) (left : Option (List ℕ)) : Type 0 where
  pub whole : List (List Decoded)
  pub begun : List Decoded
  pub has : HasBegun stations capture whole begun reader.records left
  pub segments : reader.segments ≡ length whole + 1
  pub count : reader.begun ≡ length begun
  pub all : given ≡ bodies_of whole ++ begun

-- what a record of this number adds to the bodies: a mark adds none
abbrev pub found_as : ℕ → Found → List Decoded
found_as number Mark = []
found_as number (Packet packet) = (number, Ok packet) ∷ []
found_as number (Refused refused) = (refused.number, Err refused.fault) ∷ []

-- A packet is of a listed station, where there are this many.
abbrev pub IsOfListed : ℕ → Found → Type 0
IsOfListed stations (Packet packet) = packet.station.0 < stations
IsOfListed stations found = ⊤

-- A step of a reader, with what was left before and after it: one record more was found.
abbrev pub FindsRecord : List StationSite → BodiesView → Option (List ℕ) → BodiesView
    → Option (List ℕ) → Found → Type 0
FindsRecord stations old left new after found = (capture : List ℕ) (given : List Decoded)
    → HasTold stations capture given old left
    → HasTold stations capture (given ++ found_as new.records.given found) new after

-- The capture is segments of these bodies, decoded, as many as the reader shows, and a tail of the
-- length that it tells. It is read to its end.
pub record IsToldWhole (stations : List StationSite) (capture : List ℕ) (given : List Decoded)
    (reader : BodiesView) (left : Option (List ℕ)) : Type 0 where
  pub segments : List (List Decoded)
  pub capture_is : IsCaptureOf stations capture segments (tail_of reader.records)
  pub count : reader.segments ≡ length segments
  pub all : given ≡ bodies_of segments
  pub read : IsReadToEnd MOST_RECORDS capture left

-- In this step the capture ended.
abbrev pub EndsBodies : List StationSite → BodiesView → Option (List ℕ) → BodiesView
    → Option (List ℕ) → Type 0
EndsBodies stations old left new after = (capture : List ℕ) (given : List Decoded)
    → HasTold stations capture given old left → IsToldWhole stations capture given new after

-- In this step a read failed, within the limit of records.
abbrev pub FailsInBodies : List StationSite → BodiesView → Option (List ℕ) → Option (List ℕ)
    → Type 0
FailsInBodies stations old left after = (capture : List ℕ) (given : List Decoded)
    → HasTold stations capture given old left → IsWithinLimit capture after

-- In this step a record too many was met.
abbrev pub ExceedsInBodies : List StationSite → BodiesView → Option (List ℕ) → Type 0
ExceedsInBodies stations old left = (capture : List ℕ) (given : List Decoded)
    → HasTold stations capture given old left → HasTooManyRecords capture
