-- What holds of captures and of segments: the statements of their laws.
use Rattle.std.specs.Prelude.{◌≡◌, ◌<◌, ◌≤◌, ◌⊎◌, ℕ, List, [], ◌∷◌, ◌++◌, length, map, All}
use Rattle.std.specs.Prelude.{Option}
use Rattle.std.specs.List.{flat_map, enumerate_from, AllByRecursion}
use mathlib.Core.List.{IsPrefix}
use Rattle.plum_base.specs.Counts.{AddUp}
use Rattle.plum_base.specs.declared.sites.StationSite.{StationSite}
use Rattle.plum_base.specs.Sites.{AreCodesDistinct}
use Rattle.plum_seq.specs.Keys.{kept_after}
use Rattle.plum_packet.specs.Capture.{LONGEST_RECORD}
use Rattle.plum_packet.specs.Segments.{SEGMENT_BODIES}
use Rattle.plum_packet.specs.Capture.{record_of, IsBody, IsCapture, AreBytes}
use Rattle.plum_packet.specs.Counts.{counts_in, counts_of}
use Rattle.plum_packet.specs.Segments.{segments_of, unmarked, HasNoMark, CutsSegments}
use Rattle.plum_packet.specs.Segments.{Decoded, packets_in, IsCaptureOf}
use Rattle.plum_packet.specs.Bodies.{bodies_of, BodiesView, HasTold}

-- All bytes are a capture: records, and a tail.
abbrev pub EachIsCapture : Type 0
EachIsCapture = (bytes : List ℕ) → AreBytes bytes
    → (bodies : List (List ℕ)) × (rest : List ℕ) × IsCapture bytes bodies rest

-- They are so in one way.
abbrev pub OneCapture : Type 0
OneCapture = (bytes : List ℕ) (some others : List (List ℕ)) (rest other : List ℕ)
    → IsCapture bytes some rest → IsCapture bytes others other → (some ≡ others) × (rest ≡ other)

-- The tail is shorter than the longest record.
abbrev pub TailIsShort : Type 0
TailIsShort = (bytes : List ℕ) (bodies : List (List ℕ)) (rest : List ℕ)
    → AreBytes bytes → IsCapture bytes bodies rest → length rest < LONGEST_RECORD

-- The second row of records goes on where the first ends.
abbrev pub RowGoesOn : List (List ℕ) → List ℕ → List (List ℕ) → List ℕ → Type 0
RowGoesOn some more others rest =
    (last : List (List ℕ)) × (others ≡ some ++ last) × (more ≡ flat_map record_of last ++ rest)

-- Of two rows of records, both fronts of the same bytes, one goes on where the other ends.
abbrev pub RowsGoOn : Type 0
RowsGoOn = (some others : List (List ℕ)) (more rest : List ℕ)
    → AllByRecursion IsBody some → AllByRecursion IsBody others
    → flat_map record_of some ++ more ≡ flat_map record_of others ++ rest
    → RowGoesOn some more others rest ⊎ RowGoesOn others rest some more

-- The segments hold the bodies that are not marks, each once and in order.
abbrev pub HoldEachBody : Type 0
HoldEachBody = (bodies : List (List ℕ))
    → flat_map (λ segment. segment) (segments_of bodies) ≡ unmarked bodies

-- None holds too many.
abbrev pub NoneTooLong : Type 0
NoneTooLong = (bodies : List (List ℕ))
    → All (λ segment. length segment ≤ SEGMENT_BODIES) (segments_of bodies)

-- Without a mark, fewer bodies than fill a segment are one segment.
abbrev pub OneSegment : Type 0
OneSegment = (bodies : List (List ℕ)) → HasNoMark bodies → length bodies < SEGMENT_BODIES
    → segments_of bodies ≡ enumerate_from 1 bodies ∷ []

-- A capture decodes in one way, where no two stations have one code.
abbrev pub DecodedInOneWay : Type 0
DecodedInOneWay = (stations : List StationSite) (capture : List ℕ)
    (some others : List (List Decoded)) (tail other : ℕ)
    → AreCodesDistinct stations
    → IsCaptureOf stations capture some tail → IsCaptureOf stations capture others other
    → (some ≡ others) × (tail ≡ other)

-- What a reader of bodies has given of a capture begins the bodies of its segments, where no two
-- stations have one code.
abbrev pub GivenBegins : Type 0
GivenBegins = (stations : List StationSite) (capture : List ℕ) (given : List Decoded)
    (reader : BodiesView) (left : Option (List ℕ)) (segments : List (List Decoded)) (tail : ℕ)
    → AreCodesDistinct stations → HasTold stations capture given reader left
    → IsCaptureOf stations capture segments tail → IsPrefix given (bodies_of segments)

-- Each body of a segment is kept, a repeat or refused.
abbrev pub CountsAddUp : Type 0
CountsAddUp = (segments : List (List Decoded)) → AllByRecursion AddUp (counts_of segments)

-- So is each body of the capture that is no mark.
abbrev pub BodiesAreCounted : Type 0
BodiesAreCounted = (segments : List (List Decoded))
    → map (λ c. c.bodies) (counts_of segments) ≡ map length segments

-- One segment more is counted behind those before it.
abbrev pub CountsGoOn : Type 0
CountsGoOn = (segments : List (List Decoded)) (segment : List Decoded)
    → counts_of (segments ++ segment ∷ [])
    ≡ counts_of segments
    ++ counts_in segment (kept_after (flat_map packets_in segments) (packets_in segment)) ∷ []

-- No other way cuts so.
abbrev pub OnlyCut : Type 0
OnlyCut = (segments : ℕ → List (List ℕ) → List (List (ℕ × List ℕ))) → CutsSegments segments
    → (bodies : List (List ℕ)) → segments 1 bodies ≡ segments_of bodies
