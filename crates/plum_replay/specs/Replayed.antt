-- What a replay wrote, and why it is right.
use Rattle.std.specs.Prelude.{◌≡◌, ℕ, List, length, map}
use Rattle.plum_base.specs.declared.counts.Counts.{Counts}
use Rattle.plum_base.specs.declared.setup.Setup.{Setup}
use Rattle.plum_base.specs.Sites.{SitesView}
use Rattle.plum_host.specs.declared.host.In.TheVariants.{Capture}
use Rattle.plum_host.specs.declared.host.To.TheVariants.{Out, Journal}
use Rattle.plum_host.specs.Told.{HostView, WhereTold, Appends}
use Rattle.plum_packet.specs.Reading.{IsReadToEnd, MOST_RECORDS}
use Rattle.plum_packet.specs.Segments.{Decoded, packets_in, IsCaptureOf}
use Rattle.plum_core.specs.Transcript.{Transcript, IsLegal}
use Rattle.plum_centre.specs.declared.centre.Centre.{Centre}
use Rattle.plum_centre.specs.Centre.{CentreId}
use Rattle.plum_text.specs.Texts.{Section, journal_text, out_text, totals_of}
use Rattle.plum_replay.specs.declared.totals.Totals.{Totals}
use Rattle.plum_replay.specs.Progress.{HoldsJournal}
use Rattle.plum_replay.specs.Sections.{AreSections}

-- The journal and the output are the two texts of one transcript, which is legal for the segments
-- of the capture.
pub record IsReplay (setup : Setup) (sites : SitesView)
    (capture journal output : List ℕ) : Type 0 where
  pub segments : List (List Decoded)
  pub tail : ℕ
  pub capture_is : IsCaptureOf sites.stations capture segments tail
  pub transcript : Transcript
  pub legal : IsLegal setup sites (map packets_in segments) transcript
  pub sections : List Section
  pub sections_are : AreSections setup.rules segments transcript.readings sections
  pub journal_is : journal ≡ journal_text sites.stations transcript.parts
  pub output_is : output ≡ out_text sites.targets sections tail

-- what a replay counted in all, with its tail
abbrev pub totals_in : List Section → ℕ → Totals
totals_in sections tail = record {
  segments = length sections;
  bodies = (totals_of sections).bodies;
  kept = (totals_of sections).kept;
  repeats = (totals_of sections).repeats;
  refused = (totals_of sections).refused;
  tail = tail;
}

-- the counts among them
abbrev pub counts_in_all : Totals → Counts
counts_in_all totals = record {
  bodies = totals.bodies;
  kept = totals.kept;
  repeats = totals.repeats;
  refused = totals.refused;
}

-- The two texts of a replay of this capture are appended to what the journal and the output held,
-- and these are its totals. The capture is read to its end.
pub record AppendsReplay (setup : Setup) (sites : SitesView) (totals : Totals)
    (capture : List ℕ) (before after : HostView) : Type 0 where
  pub journal : List ℕ
  pub output : List ℕ
  pub replay : IsReplay setup sites capture journal output
  pub journal_appended : Appends (before.held Journal) (after.held Journal) journal
  pub output_appended : Appends (before.held Out) (after.held Out) output
  pub totals_are : totals ≡ totals_in replay.sections replay.tail
  pub read : IsReadToEnd MOST_RECORDS capture (after.left Capture)

-- Where the host tells the capture: its two texts are appended.
abbrev pub ReplaysCapture : Setup → SitesView → Totals → HostView → HostView → Type 0
ReplaysCapture setup sites totals before after = WhereTold before Capture (λ capture.
    AppendsReplay setup sites totals capture before after)

-- The centre holds the journal of the transcript whose texts are appended.
abbrev pub ReplaysThrough : CentreId → Setup → SitesView → Totals → HostView → HostView → Centre
    → Type 0
ReplaysThrough id setup sites totals before after centre = WhereTold before Capture (λ capture.
    (done : AppendsReplay setup sites totals capture before after)
    × HoldsJournal id done.replay.transcript centre)
