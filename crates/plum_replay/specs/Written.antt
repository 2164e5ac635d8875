-- How far the two texts are written.
use Rattle.std.specs.Prelude.{◌≡◌, ℕ, List, ◌∷◌, [], ◌++◌, map}
use Rattle.plum_base.specs.declared.setup.Setup.{Setup}
use Rattle.plum_base.specs.Sites.{SitesView}
use Rattle.plum_host.specs.declared.host.To.TheVariants.{Out, Journal}
use Rattle.plum_host.specs.declared.host.In.TheVariants.{Capture}
use Rattle.plum_host.specs.Told.{HostView, WhereTold, Appends}
use Rattle.plum_packet.specs.Reading.{IsReadToEnd, MOST_RECORDS}
use Rattle.plum_packet.specs.Segments.{Decoded, IsCaptureOf, packets_in}
use Rattle.plum_core.specs.Transcript.{Transcript, IsLegal}
use Rattle.plum_centre.specs.declared.centre.Centre.{Centre}
use Rattle.plum_centre.specs.Centre.{CentreId}
use Rattle.plum_text.specs.Texts.{Section, journal_text, out_text}
use Rattle.plum_replay.specs.declared.progress.Counted.{Counted}
use Rattle.plum_replay.specs.declared.progress.Progress.{Progress}
use Rattle.plum_replay.specs.declared.totals.Totals.{Totals}
use Rattle.plum_replay.specs.Parts.{sections_text}
use Rattle.plum_replay.specs.Progress.{HasReplayed, HoldsJournal}
use Rattle.plum_replay.specs.Replayed.{totals_in}
use Rattle.plum_replay.specs.Sections.{AreSections}

-- These segments were replayed, and then the last one. The journal is written whole, and so is the
-- output: the sections of the marks before the last one's.
pub record HasWritten (id : CentreId) (setup : Setup) (sites : SitesView)
    (done : List (List Decoded)) (last : List Decoded) (progress : Progress) (counted : Counted)
    (centre : Centre) (before after : HostView) : Type 0 where
  pub transcript : Transcript
  pub sections : List Section
  pub replayed : HasReplayed id setup sites done last transcript sections progress counted centre
  pub journal : Appends (before.held Journal) (after.held Journal)
      (journal_text sites.stations transcript.parts)
  pub output : Appends (before.held Out) (after.held Out) (sections_text sites.targets sections)

-- So it is where the host tells the capture: these are all its segments, and a tail of this length.
-- It is read to its end.
pub record WritesCapture (id : CentreId) (setup : Setup) (sites : SitesView) (progress : Progress)
    (counted : Counted) (tail : ℕ) (centre : Centre) (before after : HostView)
    (capture : List ℕ) : Type 0 where
  pub done : List (List Decoded)
  pub last : List Decoded
  pub written : HasWritten id setup sites done last progress counted centre before after
  pub capture_is : IsCaptureOf sites.stations capture (done ++ last ∷ []) tail
  pub read : IsReadToEnd MOST_RECORDS capture (after.left Capture)

abbrev pub WritesAll : CentreId → Setup → SitesView → Progress → Counted → ℕ → Centre → HostView
    → HostView → Type 0
WritesAll id setup sites progress counted tail centre before after = WhereTold before Capture
    (WritesCapture id setup sites progress counted tail centre before after)

-- The end was written too: the two texts stand whole, and these are the totals. The centre holds
-- the journal.
pub record WritesEnd (id : CentreId) (setup : Setup) (sites : SitesView)
    (segments : List (List Decoded)) (tail : ℕ) (totals : Totals) (centre : Centre)
    (before after : HostView) : Type 0 where
  pub transcript : Transcript
  pub legal : IsLegal setup sites (map packets_in segments) transcript
  pub sections : List Section
  pub sections_are : AreSections setup.rules segments transcript.readings sections
  pub totals_are : totals ≡ totals_in sections tail
  pub journal : Appends (before.held Journal) (after.held Journal)
      (journal_text sites.stations transcript.parts)
  pub output : Appends (before.held Out) (after.held Out)
      (out_text sites.targets sections tail)
  pub holds : HoldsJournal id transcript centre
