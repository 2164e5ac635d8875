-- What stands in the outputs of a replay that stopped.
use Rattle.std.specs.Prelude.{◌≡◌, ◌+◌, ◌-◌, ◌⊎◌, ◌<◌, ◌≤◌, ℕ, List, length, map, take}
use Rattle.std.specs.Prelude.{Option}
use mathlib.Core.List.{IsPrefix}
use Rattle.plum_base.specs.declared.entry.Entry.{Entry}
use Rattle.plum_base.specs.declared.setup.Setup.{Setup}
use Rattle.plum_base.specs.declared.sites.StationSite.{StationSite}
use Rattle.plum_base.specs.Sites.{SitesView}
use Rattle.plum_host.specs.declared.host.In.TheVariants.{Capture}
use Rattle.plum_host.specs.declared.host.To.TheVariants.{Out, Journal}
use Rattle.plum_host.specs.Told.{HostView, WhereTold, Appends}
use Rattle.plum_packet.specs.Reading.{HasGiven, IsReadToEnd, MOST_RECORDS}
use Rattle.plum_packet.specs.Records.{RecordsView}
use Rattle.plum_packet.specs.Segments.{Decoded, packets_in, IsCaptureOf}
use Rattle.plum_core.specs.Transcript.{Transcript, IsLegalOver}
use Rattle.plum_text.specs.Texts.{Section, journal_text, out_text}
use Rattle.plum_replay.specs.Parts.{sections_text}
use Rattle.plum_replay.specs.Sections.{AreSections}

-- Of the capture a reader was given these segments, decoded, and this is left. It may have more
-- ahead, whole records too.
abbrev pub AreCut : List StationSite → List ℕ → Option (List ℕ) → List (List Decoded) → Type 0
AreCut stations capture left segments =
    (reader : RecordsView) × HasGiven stations capture segments reader left

-- The capture is read to its end, and is these segments, decoded, and a tail of this length.
pub record AreAll (stations : List StationSite) (capture : List ℕ) (left : Option (List ℕ))
    (segments : List (List Decoded)) (tail : ℕ) : Type 0 where
  pub read : IsReadToEnd MOST_RECORDS capture left
  pub capture_is : IsCaptureOf stations capture segments tail

-- These segments lie in what was taken of the capture: its first ones, or all.
abbrev pub AreTaken : List StationSite → List ℕ → Option (List ℕ) → List (List Decoded) → Type 0
AreTaken stations capture left segments =
    AreCut stations capture left segments
    ⊎ ((tail : ℕ) × AreAll stations capture left segments tail)

-- the output of a transcript of the first k of the segments that were taken, with readings at so
-- many marks: the sections of all but the last of these marks; where they are all and the last mark
-- has readings too, the whole output
abbrev pub IsOutputSoFar : SitesView → List ℕ → Option (List ℕ) → List (List Decoded) → ℕ → ℕ
    → List Section → List ℕ → Type 0
IsOutputSoFar sites capture left segments k read sections output =
    ((read ≡ k - 1) × (output ≡ sections_text sites.targets sections))
    ⊎ ((tail : ℕ) × AreAll sites.stations capture left segments tail × (k ≡ length segments)
    × (read ≡ k) × (output ≡ out_text sites.targets sections tail))

-- Of a journal and of an output this much is written in order: where the output has more than the
-- sections of the first m marks, so that the next one is begun, the journal lines of the first
-- m + 2 segments stand whole, or those of all, where there are no more.
abbrev pub AreInOrder : SitesView → List (List Entry) → List Section → List ℕ → List ℕ → Type 0
AreInOrder sites parts sections journal output =
    (m : ℕ) → length (sections_text sites.targets (take m sections)) < length output
    → IsPrefix (journal_text sites.stations (take (m + 2) parts)) journal

-- The journal and the output begin the two texts of one transcript, and are written in order. It is
-- legal up to the k-th segment, and the segments up to there lie in what was taken of the capture.
-- The readings at the last mark of a capture are made behind its whole journal: until then it has
-- those at the marks before, and the output no more than their sections. With the predictions over
-- the whole journal as readings at that mark it is legal to the end.
pub record IsBegun (setup : Setup) (sites : SitesView) (capture : List ℕ)
    (left : Option (List ℕ)) (journal output : List ℕ) : Type 0 where
  pub segments : List (List Decoded)
  pub taken : AreTaken sites.stations capture left segments
  pub k : ℕ
  pub within : k ≤ length segments
  pub read : ℕ
  pub transcript : Transcript
  pub legal : IsLegalOver setup sites (take k (map packets_in segments)) read transcript
  pub sections : List Section
  pub sections_are : AreSections setup.rules (take read segments) transcript.readings sections
  pub whole_output : List ℕ
  pub output_is : IsOutputSoFar sites capture left segments k read sections whole_output
  pub journal_begun : IsPrefix journal (journal_text sites.stations transcript.parts)
  pub output_begun : IsPrefix output whole_output
  pub in_order : AreInOrder sites transcript.parts sections journal output

-- The beginnings of two such texts are appended.
abbrev pub AppendsBegun : Setup → SitesView → List ℕ → Option (List ℕ) → HostView → HostView
    → Type 0
AppendsBegun setup sites capture left before after =
    (journal : List ℕ) × (output : List ℕ) × IsBegun setup sites capture left journal output
    × Appends (before.held Journal) (after.held Journal) journal
    × Appends (before.held Out) (after.held Out) output

-- So it is where the host tells the capture.
abbrev pub BeginsReplay : Setup → SitesView → HostView → HostView → Type 0
BeginsReplay setup sites before after = WhereTold before Capture (λ capture.
    AppendsBegun setup sites capture (after.left Capture) before after)
