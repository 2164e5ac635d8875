-- The pieces of a round's work (the project's own): for the steps within a call.
use Rattle.std.specs.Prelude.{◌≡◌, ℕ, ◌+◌, ◌<◌, ◌≤◌, true, List, [], ◌++◌, length, map}
use Rattle.std.specs.Prelude.{slice_index_or, All, None}
use Rattle.plum_base.specs.declared.packet.Packet.{Packet}
use Rattle.plum_packet.specs.Reading.{MOST_RECORDS}
use Rattle.plum_lanes.specs.declared.lanes.Lane.{Lane}
use Rattle.plum_lanes.specs.Gathering.{gathered, IsGather, KeepsOpening}
use Rattle.plum_lanes.specs.Lanes.{waiting_in, HasTaken, IsForLane}
use Rattle.plum_lanes.specs.Opening.{Opening}
use Rattle.plum_snap.specs.Sessions.{SessionView}
use Rattle.plum_centre.specs.Feeder.{FeederView}
use Rattle.plum_centre.specs.Turns.{GoesOn}
use Rattle.plum_replay.specs.declared.round.looking.Watch.{Watch}
use Rattle.plum_replay.specs.declared.round.taking.Share.{Share}
use Rattle.plum_replay.specs.Rounds.{HasLooked, HasRoom}

-- ---- a lane, with its packets

-- The lane, which has this number, can take its packets: they are for it.
pub record CanTakePart (opening : Opening) (number : ℕ) (share : Share) : Type 0 where
  pub room : HasRoom opening number share.packets.items share.lane
  pub own : All (IsForLane opening number) share.packets.items

-- It took a front of them, behind whatever it had taken, and the rest is left.
pub record TakesPart (number : ℕ) (before after : Share) : Type 0 where
  pub front : List Packet
  pub left : before.packets.items ≡ front ++ after.packets.items
  pub has : (opening : Opening) (taken : List Packet) → CanTakePart opening number before
      → HasTaken opening number taken before.lane
      → HasTaken opening number (taken ++ front) after.lane

-- None of its packets is left, and nothing waits in the lane.
pub record IsDone (share : Share) : Type 0 where
  pub none_left : share.packets.items ≡ []
  pub free : waiting_in share.lane ≡ None

abbrev pub CanTakeParts : Opening → List Share → Type 0
CanTakeParts opening shares =
    (i : ℕ) (d : Share) → i < length shares
    → CanTakePart opening i (slice_index_or shares i d)

abbrev pub TakeParts : List Share → List Share → Type 0
TakeParts before after =
    (i : ℕ) (d : Share) → i < length before
    → TakesPart i (slice_index_or before i d) (slice_index_or after i d)

-- the lane of a share
abbrev pub lane_in : Share → Lane
lane_in share = share.lane

-- These are the lanes, each with these packets, by its number.
pub record AreShares (lanes : List Lane) (packets : ℕ → List Packet) (shares : List Share)
    : Type 0 where
  pub lanes_are : map lane_in shares ≡ lanes
  pub each : (i : ℕ) (d : Share) → i < length shares
      → (slice_index_or shares i d).packets.items ≡ packets i

-- ---- the feeder

-- No more was gathered than a capture has, beside what is noted.
abbrev pub GatheredFew : FeederView → Type 0
GatheredFew feeder = length (gathered feeder.gather) ≤ MOST_RECORDS + length feeder.notes

-- The feeder can turn: it is that of some opening, and gathered few.
abbrev pub CanFeed : FeederView → Type 0
CanFeed feeder = (opening : Opening) × IsGather opening feeder.gather × GatheredFew feeder

-- It went on, and is that of the same opening.
pub record HasFed (before after : FeederView) : Type 0 where
  pub gather : KeepsOpening before.gather after.gather
  pub goes_on : GoesOn before after

-- ---- a session

-- the session of a watch
abbrev pub session_in : Watch → SessionView
session_in watch = watch.session

-- Where it is done, the session looked.
abbrev pub Looks : Watch → Watch → Type 0
Looks before after = after.done ≡ true → HasLooked before.session after.session

abbrev pub AllLook : List Watch → List Watch → Type 0
AllLook before after =
    (a : ℕ) (d : Watch) → a < length before
    → Looks (slice_index_or before a d) (slice_index_or after a d)
