-- All lanes of an opening, with their gatherer: new ones, and those whose round is closed (the
-- project's own).
use Rattle.std.specs.Prelude.{◌≡◌, ℕ, ◌+◌, ◌<◌, List, [], ◌++◌, length, slice_index_or}
use Rattle.plum_base.specs.declared.entry.Entry.{Entry}
use Rattle.plum_base.specs.declared.packet.Packet.{Packet}
use Rattle.plum_core.specs.Facts.{IsQueueBounded}
use Rattle.plum_core.specs.History.{entries_of_lane, IsValidHistory}
use Rattle.plum_lanes.specs.declared.gatherer.Gather.{Gather}
use Rattle.plum_lanes.specs.declared.lanes.Lane.{Lane}
use Rattle.plum_lanes.specs.Gathering.{gathered, IsGather, AreSettled, HoldsAllSent, AreGathered}
use Rattle.plum_lanes.specs.Lanes.{sent, waiting_in, kept_by, repeats_of, AreLanes, HasTaken}
use Rattle.plum_lanes.specs.Lanes.{HaveTaken, AreFree, all_sent}
use Rattle.plum_lanes.specs.Opening.{Opening}

-- These are all the lanes of the opening, each once and in order, and this is its gatherer.
pub record AreWhole (opening : Opening) (lanes : List Lane) (gather : Gather) : Type 0 where
  pub lanes_are : AreLanes opening lanes
  pub gather_is : IsGather opening gather

-- So they are, and nothing happened yet.
pub record AreNew (opening : Opening) (lanes : List Lane) (gather : Gather) : Type 0 where
  pub whole : AreWhole opening lanes gather
  pub taken : HaveTaken opening (λ _. []) lanes
  pub free : AreFree lanes
  pub none_sent : (i : ℕ) (d : Lane) → i < length lanes → sent (slice_index_or lanes i d) ≡ []
  pub none_gathered : gathered gather ≡ []
  pub settled : AreSettled lanes gather

-- The lane sent and counted what it did, and what waits in it waits on.
pub record IsAsBefore (before after : Lane) : Type 0 where
  pub sent_is : sent after ≡ sent before
  pub waiting_is : waiting_in after ≡ waiting_in before
  pub kept_is : kept_by after ≡ kept_by before
  pub repeats_is : repeats_of after ≡ repeats_of before

-- So did each of these.
pub record AreAsBefore (before after : List Lane) : Type 0 where
  pub long : length after ≡ length before
  pub each : (i : ℕ) (d : Lane) → i < length before
      → IsAsBefore (slice_index_or before i d) (slice_index_or after i d)

-- Whatever packets each of these took, it has taken them still, and no others.
abbrev pub KeepTaken : Opening → List Lane → List Lane → Type 0
KeepTaken opening before after =
    (i : ℕ) (d : Lane) (taken : List Packet) → i < length before
    → HasTaken opening i taken (slice_index_or before i d)
    → HasTaken opening i taken (slice_index_or after i d)

-- These stay all the lanes of their opening, with its gatherer. They took and sent what they did.
pub record KeepWhole (lanes : List Lane) (before : Gather) (lanes_then : List Lane)
    (after : Gather) : Type 0 where
  pub whole : (opening : Opening) → AreWhole opening lanes before
      → AreWhole opening lanes_then after
  pub taken : (opening : Opening) → AreWhole opening lanes before
      → KeepTaken opening lanes lanes_then
  pub same : AreAsBefore lanes lanes_then

-- What each lane sent is its entries in the gathered list and then those that are still queued.
-- Both together are a valid history of as many entries as were sent, and the queue is within its
-- bound.
pub record IsClosed (opening : Opening) (lanes : List Lane) (gather : Gather) : Type 0 where
  pub queued : List Entry
  pub bounded : IsQueueBounded opening.basis.setup.queue queued
  pub valid : IsValidHistory opening.basis.setup opening.basis.stations
      (gathered gather ++ queued)
  pub each : (i : ℕ) (d : Lane) → i < length lanes
      → sent (slice_index_or lanes i d)
      ≡ entries_of_lane i (gathered gather) ++ entries_of_lane i queued
  pub counted : length (gathered gather) + length queued ≡ all_sent lanes

-- The round is closed: the lanes and what is gathered stay as they were, and the gatherer knows
-- what each lane sent. Where all of that is gathered, nothing else is.
pub record ClosesRound (lanes : List Lane) (before : Gather) (lanes_then : List Lane)
    (after : Gather) : Type 0 where
  pub keep : KeepWhole lanes before lanes_then after
  pub same_gathered : gathered after ≡ gathered before
  pub settled : AreSettled lanes_then after
  pub closed : (opening : Opening) → AreWhole opening lanes before
      → IsClosed opening lanes_then after
  pub all : HoldsAllSent lanes before → AreGathered lanes_then after
