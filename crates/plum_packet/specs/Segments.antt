-- Segments of a capture (the project's own rule). A mark ends a segment, and so does the body that
-- fills it. The last segment ends at the end of the capture and may be empty.
use Rattle.std.specs.Prelude.{◌≡◌, ◌≢◌, ℕ, ◌+◌, ◌<◌, ◌==◌, not, if◌then◌else◌, List, [], ◌∷◌, ◌++◌}
use Rattle.std.specs.Prelude.{length, All, filter, filter_map, option_map, Result, Ok, Err}
use Rattle.std.specs.List.{AllZip, enumerate_from}
use Rattle.std.specs.Result.{result_ok, result_err}
use Rattle.std.specs.Str.{bytes_eq}
use Rattle.plum_base.specs.declared.sites.StationSite.{StationSite}
use Rattle.plum_base.specs.declared.packet.Packet.{Packet}
use Rattle.plum_base.specs.declared.packet.PacketFault.{PacketFault}
use Rattle.plum_base.specs.declared.packet.RefusedBody.{RefusedBody}
use Rattle.plum_packet.specs.Capture.{mark_body, IsCapture}
use Rattle.plum_packet.specs.Body.{IsPacket, IsFirstFault}

-- how many bodies fill a segment
abbrev pub SEGMENT_BODIES : ℕ
SEGMENT_BODIES = 65536

-- the segments of the records from number n on, where these bodies are in the open segment already:
-- the bodies that are not marks, each with the number of its record
abbrev pub segments_from : ℕ → List (ℕ × List ℕ) → List (List ℕ) → List (List (ℕ × List ℕ))
segments_from n so_far [] = so_far ∷ []
segments_from n so_far (body ∷ bodies) =
    if bytes_eq body mark_body
    then so_far ∷ segments_from (n + 1) [] bodies
    else if length so_far + 1 == SEGMENT_BODIES
    then (so_far ++ (n, body) ∷ []) ∷ segments_from (n + 1) [] bodies
    else segments_from (n + 1) (so_far ++ (n, body) ∷ []) bodies

-- the segments of a capture of these bodies; records are numbered from 1, marks included
abbrev pub segments_of : List (List ℕ) → List (List (ℕ × List ℕ))
segments_of bodies = segments_from 1 [] bodies

-- the bodies of a capture that are not marks, each with the number of its record
abbrev pub unmarked : List (List ℕ) → List (ℕ × List ℕ)
unmarked bodies = filter (λ numbered. not (bytes_eq numbered.1 mark_body)) (enumerate_from 1 bodies)

-- None of these bodies is a mark.
abbrev pub HasNoMark : List (List ℕ) → Type 0
HasNoMark bodies = All (λ body. body ≢ mark_body) bodies

-- This is a way to cut the records from a number on into segments: a segment goes on until a mark
-- comes, or it is full, or the capture ends.
pub record CutsSegments (segments : ℕ → List (List ℕ) → List (List (ℕ × List ℕ))) : Type 0 where
  -- A mark ends the segment before it.
  pub mark : (n : ℕ) (front later : List (List ℕ))
      → HasNoMark front → length front < SEGMENT_BODIES
      → segments n (front ++ mark_body ∷ later)
      ≡ enumerate_from n front ∷ segments (n + length front + 1) later
  -- Bodies that fill a segment end it.
  pub full : (n : ℕ) (front later : List (List ℕ))
      → HasNoMark front → length front ≡ SEGMENT_BODIES
      → segments n (front ++ later) ≡ enumerate_from n front ∷ segments (n + SEGMENT_BODIES) later
  -- Fewer, with no mark after them, are the last segment.
  pub last : (n : ℕ) (bodies : List (List ℕ)) → HasNoMark bodies → length bodies < SEGMENT_BODIES
      → segments n bodies ≡ enumerate_from n bodies ∷ []

-- What a body decodes as: a packet, or its first fault.
abbrev pub DecodesAs : List StationSite → List ℕ → Result Packet PacketFault → Type 0
DecodesAs stations body (Ok packet) = IsPacket stations body packet
DecodesAs stations body (Err fault) = IsFirstFault stations body fault

-- a body decoded, beside the number of its record
abbrev pub Decoded : Type 0
Decoded = ℕ × Result Packet PacketFault

-- This is the segment with its bodies decoded, each beside the number of its record.
abbrev pub IsDecodedSegment : List StationSite → List (ℕ × List ℕ) → List Decoded → Type 0
IsDecodedSegment stations segment results = AllZip
    (λ body decoded. (decoded.0 ≡ body.0) × DecodesAs stations body.1 decoded.1) segment results

-- the packets of a segment, in file order
abbrev pub packets_in : List Decoded → List Packet
packets_in results = filter_map (λ decoded. result_ok decoded.1) results

-- the refused bodies of a segment: the numbers of their records, and their faults
abbrev pub refused_in : List Decoded → List RefusedBody
refused_in results = filter_map
    (λ decoded. option_map (λ fault. record { number = decoded.0; fault = fault })
    (result_err decoded.1)) results

-- The capture is these segments, decoded, and a tail of this length.
pub record IsCaptureOf (stations : List StationSite) (capture : List ℕ)
    (segments : List (List Decoded)) (tail : ℕ) : Type 0 where
  pub bodies : List (List ℕ)
  pub rest : List ℕ
  pub capture_is : IsCapture capture bodies rest
  pub decoded : AllZip (IsDecodedSegment stations) (segments_of bodies) segments
  pub tail_is : tail ≡ length rest
