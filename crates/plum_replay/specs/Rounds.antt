-- A round of a centre on threads (the project's own): its lanes take packets, its feeder publishes
-- what they send, and its sessions read, side by side.
use Rattle.std.specs.Prelude.{◌≡◌, ℕ, ◌+◌, ◌<◌, ◌≤◌, Bool, true, false, List, []}
use Rattle.std.specs.Prelude.{◌++◌, length, slice_index_or}
use Rattle.plum_base.specs.declared.packet.Packet.{Packet}
use Rattle.plum_base.specs.Packet.{AreListed}
use Rattle.plum_packet.specs.Reading.{MOST_RECORDS}
use Rattle.plum_core.specs.Transcript.{of_lane}
use Rattle.plum_lanes.specs.declared.lanes.Lane.{Lane}
use Rattle.plum_lanes.specs.Gathering.{gathered}
use Rattle.plum_lanes.specs.Lanes.{HasTaken, AreFree}
use Rattle.plum_lanes.specs.Opening.{Opening}
use Rattle.plum_snap.specs.Sessions.{SessionView, HasRead}
use Rattle.plum_centre.specs.declared.centre.Centre.{Centre}
use Rattle.plum_centre.specs.Centre.{CentreId, IsWhole}
use Rattle.plum_centre.specs.Turns.{GoesOn}

-- The session looked at what is published: it has read one front, however often it was shut out
-- before.
abbrev pub HasLooked : SessionView → SessionView → Type 0
HasLooked before after = HasRead (record before { shut = after.shut }) after after.last

-- Each of these looked.
pub record HaveLooked (before after : List SessionView) : Type 0 where
  pub long : length after ≡ length before
  pub each : (a : ℕ) (d : SessionView) → a < length before
      → HasLooked (slice_index_or before a d) (slice_index_or after a d)

-- The lane of this number took so few packets that it can count these too.
pub record HasRoom (opening : Opening) (number : ℕ) (packets : List Packet) (lane : Lane)
    : Type 0 where
  pub taken : List Packet
  pub has : HasTaken opening number taken lane
  pub few : length taken + length packets ≤ MOST_RECORDS

-- These lanes, which are all of the opening, can share these packets out: nothing waits in any.
pub record CanShare (opening : Opening) (packets : List Packet) (lanes : List Lane) : Type 0 where
  pub all : length lanes ≡ opening.basis.setup.lanes
  pub listed : AreListed opening.basis.stations packets
  pub free : AreFree lanes
  pub room : (i : ℕ) (d : Lane) → i < length lanes
      → HasRoom opening i packets (slice_index_or lanes i d)

-- Each of them took its packets of these, in order, and sent what they made: nothing waits in any.
pub record HaveShared (opening : Opening) (packets : List Packet) (before after : List Lane)
    : Type 0 where
  pub long : length after ≡ length before
  pub taken : (i : ℕ) (d : Lane) (taken : List Packet) → i < length before
      → HasTaken opening i taken (slice_index_or before i d)
      → HasTaken opening i (taken ++ of_lane opening.basis.setup.lanes i packets)
      (slice_index_or after i d)
  pub free : AreFree after

-- A centre can work on these packets: its lanes can share them out, and nothing is noted.
pub record CanWork (id : CentreId) (packets : List Packet) (centre : Centre) : Type 0 where
  pub whole : IsWhole id centre
  pub share : CanShare id.opening packets centre.lanes.items
  pub few : length (gathered centre.feeder.gather) ≤ MOST_RECORDS
  pub none_noted : centre.feeder.notes ≡ []

-- It did: its lanes shared them out; its feeder went on, and was refused no memory; and each
-- session looked, in a round in which they read.
pub record HasWorked (id : CentreId) (packets : List Packet) (reads : Bool) (before after : Centre)
    : Type 0 where
  pub whole : IsWhole id after
  pub shared : HaveShared id.opening packets before.lanes.items after.lanes.items
  pub goes_on : GoesOn before.feeder after.feeder
  pub allowed : after.feeder.refused ≡ false
  pub looked : reads ≡ true → HaveLooked before.sessions.items after.sessions.items
  pub as_before : reads ≡ false → after.sessions.items ≡ before.sessions.items
