-- How far a replay has come, and what a round adds.
use Rattle.std.specs.Prelude.{◌≡◌, ℕ, ◌+◌, ◌<◌, ◌≤◌, Bool, true, List, [], ◌∷◌, ◌++◌, length, map}
use Rattle.std.specs.Prelude.{slice_get, slice_index_or, Option, All}
use Rattle.std.specs.List.{flat_map}
use Rattle.std.specs.Option.{option_to_list}
use Rattle.plum_base.specs.declared.answers.Reading.{Reading}
use Rattle.plum_base.specs.declared.counts.Counts.{Counts}
use Rattle.plum_base.specs.declared.entry.Entry.{Entry}
use Rattle.plum_base.specs.declared.packet.Packet.{Packet}
use Rattle.plum_base.specs.declared.rules.Alert.{Alert}
use Rattle.plum_base.specs.declared.rules.Rules.{Rules}
use Rattle.plum_base.specs.declared.setup.Setup.{Setup}
use Rattle.plum_base.specs.declared.sites.TargetSite.{TargetSite}
use Rattle.plum_base.specs.Sites.{SitesView, areas_of}
use Rattle.plum_packet.specs.Counts.{counts_in}
use Rattle.plum_packet.specs.Segments.{Decoded, packets_in, refused_in}
use Rattle.plum_core.specs.Keys.{kept_after}
use Rattle.plum_core.specs.Transcript.{Transcript, IsLegalOver, journal_of, with_part}
use Rattle.plum_core.specs.Transcript.{with_readings, AreReadingsFrom, no_transcript, IsLegal}
use Rattle.plum_core.specs.Transcript.{IsReadingAt}
use Rattle.plum_lanes.specs.Gathering.{gathered, AreGathered}
use Rattle.plum_snap.specs.Sessions.{SessionView}
use Rattle.plum_alert.specs.Alerts.{alerts_of}
use Rattle.plum_alert.specs.Desk.{DeskView}
use Rattle.plum_alert.specs.Desk.{StandsFor as DeskStandsFor}
use Rattle.plum_centre.specs.declared.centre.Centre.{Centre}
use Rattle.plum_centre.specs.Centre.{CentreId, IsOf, IsWhole}
use Rattle.plum_text.specs.Texts.{Section, journal_text, totals_of}
use Rattle.plum_replay.specs.declared.progress.Counted.{Counted}
use Rattle.plum_replay.specs.declared.progress.Progress.{Progress}
use Rattle.plum_replay.specs.Areas.{AreByArea}
use Rattle.plum_replay.specs.Between.{IsBetweenRounds, last_readings}
use Rattle.plum_replay.specs.Parts.{section_text, sections_text}
use Rattle.plum_replay.specs.Sections.{of_area, AreSections}

-- ---- desks

-- The desks of these rules were given these readings, by the number of the area.
abbrev pub AreDesks : List DeskView → Rules → (ℕ → List Reading) → Type 0
AreDesks desks rules given = (a : ℕ) (d : DeskView) → a < length desks
    → DeskStandsFor (slice_index_or desks a d) rules (given a)

-- what each was given, with the readings of one mark more
abbrev pub given_with : (ℕ → List Reading) → List Reading → ℕ → List Reading
given_with given readings a = given a ++ option_to_list (slice_get readings a)

-- These are the alerts that the readings of a mark give after those given before, one or none for
-- each area.
pub record AreNext (rules : Rules) (given : ℕ → List Reading) (readings : List Reading)
    (alerts : List (Option Alert)) : Type 0 where
  pub one_each : length alerts ≡ length readings
  pub each : (a : ℕ) → alerts_of rules (given_with given readings a)
      ≡ alerts_of rules (given a) ++ option_to_list (slice_get alerts a)

-- ---- what is kept between two rounds

-- It is of these sites: it has their targets by area, and a desk for each area.
pub record IsProgressOf (progress : Progress) (sites : SitesView) : Type 0 where
  pub by_area : AreByArea sites.targets progress.by_area.items
  pub desks : length progress.desks.items ≡ length (areas_of sites.targets)

-- the sums of two counts
abbrev pub both : Counts → Counts → Counts
both a b = record {
  bodies = a.bodies + b.bodies;
  kept = a.kept + b.kept;
  repeats = a.repeats + b.repeats;
  refused = a.refused + b.refused;
}

-- The centre is of this setup and these sites, and has taken these packets, no more than were
-- counted.
pub record IsAt (id : CentreId) (setup : Setup) (sites : SitesView) (packets : List Packet)
    (progress : Progress) (centre : Centre) : Type 0 where
  pub of : IsOf setup sites id
  pub between : IsBetweenRounds id packets centre
  pub few : length packets ≤ progress.counts.bodies

-- The journal so far. A centre of this setup and these sites worked on these segments, decoded, and
-- this is its transcript: so many marks have readings.
pub record HasWorkedOn (id : CentreId) (setup : Setup) (sites : SitesView)
    (segments : List (List Decoded)) (read : ℕ) (t : Transcript) (progress : Progress)
    (centre : Centre) : Type 0 where
  pub at : IsAt id setup sites (flat_map packets_in segments) progress centre
  pub journal : gathered centre.feeder.gather ≡ journal_of t
  pub legal : IsLegalOver setup sites (map packets_in segments) read t
  pub number : progress.segments ≡ length segments
  pub parts : length t.parts ≡ length segments
  pub kept : progress.counts.kept ≡ length (journal_of t)

-- The output so far. These segments have their sections, and the desks were given the readings
-- there. The last segment has none yet: this is what its section will tell of it.
pub record HasTold (setup : Setup) (done : List (List Decoded)) (last : List Decoded)
    (readings : List (List Reading)) (sections : List Section) (progress : Progress)
    (counted : Counted) : Type 0 where
  pub desks : AreDesks progress.desks.items setup.rules (λ a. of_area a readings)
  pub sections_are : AreSections setup.rules done readings sections
  pub counts_ahead : counted.counts
      ≡ counts_in last (kept_after (flat_map packets_in done) (packets_in last))
  pub refused_ahead : counted.refused.items ≡ refused_in last
  pub counts : progress.counts ≡ both (totals_of sections) counted.counts

-- These segments were replayed, and then the last one, whose mark has no section yet.
pub record HasReplayed (id : CentreId) (setup : Setup) (sites : SitesView)
    (done : List (List Decoded)) (last : List Decoded) (t : Transcript) (sections : List Section)
    (progress : Progress) (counted : Counted) (centre : Centre) : Type 0 where
  pub worked : HasWorkedOn id setup sites (done ++ last ∷ []) (length done) t progress centre
  pub told : HasTold setup done last t.readings sections progress counted

-- ---- what a round adds

-- One segment more was worked on: its entries joined the journal, and these are its lines. Its mark
-- has no readings yet. Where the sessions read beside it, their last readings are such ones of the
-- mark before.
pub record TakesOneMore (id : CentreId) (setup : Setup) (sites : SitesView)
    (segments : List (List Decoded)) (read : ℕ) (t : Transcript) (segment : List Decoded)
    (reads : Bool) (before : Progress) (lines : List ℕ) (counted : Counted) (after : Progress)
    (centre : Centre) : Type 0 where
  pub part : List Entry
  pub worked : HasWorkedOn id setup sites (segments ++ segment ∷ []) read (with_part t part) after
      centre
  pub journal_more : journal_text sites.stations (t.parts ++ part ∷ [])
      ≡ journal_text sites.stations t.parts ++ lines
  pub counts_ahead : counted.counts
      ≡ counts_in segment (kept_after (flat_map packets_in segments) (packets_in segment))
  pub refused_ahead : counted.refused.items ≡ refused_in segment
  pub counts : after.counts ≡ both before.counts counted.counts
  pub read_beside : reads ≡ true
      → AreReadingsFrom sites (length (journal_of t)) (journal_of (with_part t part))
      (last_readings centre.sessions.items)

-- The desks were given the readings of one mark more, and this is the text of its section.
pub record TellsMark (rules : Rules) (given : ℕ → List Reading) (targets : List TargetSite) (m : ℕ)
    (counted : Counted) (readings : List Reading) (desks : List DeskView) (text : List ℕ)
    : Type 0 where
  pub alerts : List (Option Alert)
  pub next : AreNext rules given readings alerts
  pub desks_are : AreDesks desks rules (given_with given readings)
  pub text_is : text ≡ section_text targets m (record {
    counts = counted.counts;
    refused = counted.refused.items;
    readings = readings;
    alerts = alerts;
  })

-- One segment more was replayed: its entries joined the journal, and then the readings at the mark
-- before it, which has its section now. These are the texts that this adds.
pub record ReplaysOneMore (id : CentreId) (setup : Setup) (sites : SitesView)
    (done : List (List Decoded)) (last : List Decoded) (t : Transcript) (sections : List Section)
    (segment : List Decoded) (lines section_is : List ℕ) (counted : Counted) (after : Progress)
    (centre : Centre) : Type 0 where
  pub part : List Entry
  pub readings : List Reading
  pub section : Section
  pub replayed : HasReplayed id setup sites (done ++ last ∷ []) segment
      (with_readings (with_part t part) readings) (sections ++ section ∷ []) after counted centre
  pub journal_more : journal_text sites.stations (t.parts ++ part ∷ [])
      ≡ journal_text sites.stations t.parts ++ lines
  pub output_more : sections_text sites.targets (sections ++ section ∷ [])
      ≡ sections_text sites.targets sections ++ section_is

-- Nothing was replayed yet.
pub record HasBegun (id : CentreId) (setup : Setup) (sites : SitesView) (progress : Progress)
    (centre : Centre) : Type 0 where
  pub worked : HasWorkedOn id setup sites [] 0 no_transcript progress centre
  pub desks : AreDesks progress.desks.items setup.rules (λ _. [])
  pub counts : progress.counts ≡ record { bodies = 0; kept = 0; repeats = 0; refused = 0 }

-- The first segment was replayed. These are the lines of its entries; no mark has readings yet.
pub record ReplaysFirst (id : CentreId) (setup : Setup) (sites : SitesView)
    (segment : List Decoded) (lines : List ℕ) (counted : Counted) (after : Progress)
    (centre : Centre) : Type 0 where
  pub part : List Entry
  pub replayed : HasReplayed id setup sites [] segment (with_part no_transcript part) [] after
      counted centre
  pub journal_is : journal_text sites.stations (part ∷ []) ≡ lines

-- The centre holds the whole journal: it is gathered and published, each lane sent its entries
-- there, and each session has seen all of it. Its last reading is that of its area at the last
-- mark.
pub record HoldsJournal (id : CentreId) (t : Transcript) (centre : Centre) : Type 0 where
  pub whole : IsWhole id centre
  pub gathered_is : gathered centre.feeder.gather ≡ journal_of t
  pub published_is : centre.feeder.published ≡ journal_of t
  pub sent : AreGathered centre.lanes.items centre.feeder.gather
  pub seen : All (λ session. session.seen ≡ journal_of t) centre.sessions.items
  pub last : (a : ℕ) (d : SessionView) → a < length centre.sessions.items
      → IsReadingAt t (length t.readings) a (slice_index_or centre.sessions.items a d).last

-- The readings at the last mark joined, and this is its section. The centre holds the journal.
pub record EndsReplay (id : CentreId) (setup : Setup) (sites : SitesView)
    (done : List (List Decoded)) (last : List Decoded) (t : Transcript) (sections : List Section)
    (text : List ℕ) (after : Progress) (centre : Centre) : Type 0 where
  pub readings : List Reading
  pub section : Section
  pub legal : IsLegal setup sites (map packets_in (done ++ last ∷ []))
      (with_readings t readings)
  pub sections_are : AreSections setup.rules (done ++ last ∷ []) (t.readings ++ readings ∷ [])
      (sections ++ section ∷ [])
  pub output_more : sections_text sites.targets (sections ++ section ∷ [])
      ≡ sections_text sites.targets sections ++ text
  pub number : after.segments ≡ length (sections ++ section ∷ [])
  pub counts : after.counts ≡ totals_of (sections ++ section ∷ [])
  pub holds : HoldsJournal id (with_readings t readings) centre
