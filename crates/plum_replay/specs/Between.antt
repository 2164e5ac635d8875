-- A centre between two rounds, and what a round over some packets does to it (the project's own).
use Rattle.std.specs.Prelude.{◌≡◌, ◌+◌, ◌≤◌, Bool, true, List, ◌++◌, length, map, All}
use Rattle.plum_base.specs.declared.answers.Reading.{Reading}
use Rattle.plum_base.specs.declared.entry.Entry.{Entry}
use Rattle.plum_base.specs.declared.packet.Packet.{Packet}
use Rattle.plum_base.specs.Note.{note_of}
use Rattle.plum_base.specs.Packet.{AreListed}
use Rattle.plum_packet.specs.Reading.{MOST_RECORDS}
use Rattle.plum_core.specs.Keys.{kept_after}
use Rattle.plum_core.specs.Transcript.{of_lane, HoldsByLane, AreReadingsFrom}
use Rattle.plum_lanes.specs.Gathering.{gathered, AreGathered}
use Rattle.plum_lanes.specs.Lanes.{HaveTaken, AreFree}
use Rattle.plum_snap.specs.Sessions.{SessionView}
use Rattle.plum_centre.specs.declared.centre.Centre.{Centre}
use Rattle.plum_centre.specs.Centre.{CentreId, IsWhole}

-- A centre between two rounds has taken these packets, each lane its own. Nothing waits in a lane;
-- all that was sent is gathered and published, and each session has seen all of it.
pub record IsBetweenRounds (id : CentreId) (packets : List Packet) (centre : Centre)
    : Type 0 where
  pub whole : IsWhole id centre
  pub taken : HaveTaken id.opening
      (λ lane. of_lane id.opening.basis.setup.lanes lane packets) centre.lanes.items
  pub free : AreFree centre.lanes.items
  pub sent : AreGathered centre.lanes.items centre.feeder.gather
  pub published : centre.feeder.published ≡ gathered centre.feeder.gather
  pub seen : All (λ session. session.seen ≡ gathered centre.feeder.gather)
      centre.sessions.items

-- It can go on by these packets: its lanes are those of its stations, which have sent them.
pub record CanGoOn (id : CentreId) (earlier packets : List Packet) (centre : Centre)
    : Type 0 where
  pub between : IsBetweenRounds id earlier centre
  pub stations_are : id.opening.basis.stations ≡ length id.sites.stations
  pub listed : AreListed (length id.sites.stations) packets
  pub few : length earlier + length packets ≤ MOST_RECORDS

-- the last reading of each session
abbrev pub last_readings : List SessionView → List Reading
last_readings sessions = map (λ session. session.last) sessions

-- It went on by these packets, and is between two rounds again. The entries of the kept ones joined
-- what is gathered, and their notes are the feeder's. In a round in which the sessions read, each
-- read over a front that holds all that was gathered before.
pub record GoesOnBy (id : CentreId) (earlier packets : List Packet) (reads : Bool)
    (before after : Centre) : Type 0 where
  pub between : IsBetweenRounds id (earlier ++ packets) after
  pub part : List Entry
  pub grew : gathered after.feeder.gather ≡ gathered before.feeder.gather ++ part
  pub noted : after.feeder.notes ≡ map note_of part
  pub kept : HoldsByLane id.opening.basis.setup.lanes part (kept_after earlier packets)
  pub few : length part ≤ length packets
  pub read : reads ≡ true
      → AreReadingsFrom id.sites (length (gathered before.feeder.gather))
      (gathered after.feeder.gather) (last_readings after.sessions.items)
