-- The feeder, as its callers know it (the project's own).
use Rattle.std.specs.Prelude.{◌≡◌, ℕ, Bool, false, List, []}
use mathlib.Core.List.{IsPrefix}
use Rattle.plum_base.specs.declared.entry.Entry.{Entry}
use Rattle.plum_base.specs.declared.note.Note.{Note}
use Rattle.plum_lanes.specs.declared.gatherer.Gather.{Gather}
use Rattle.plum_lanes.specs.Gathering.{gathered}
use Rattle.plum_snap.specs.Fronts.{PublisherId, Extends}

-- so many pending entries are published, whether or not the queue is empty
abbrev pub BATCH : ℕ
BATCH = 64

-- its gatherer; which publisher it has; all that was appended, which is what is published and then
-- what is pending; the front of it that is published; its notes; and whether a turn was refused
-- memory
pub record FeederView : Type 0 where
  pub gather : Gather
  pub publisher : PublisherId
  pub appended : List Entry
  pub published : List Entry
  pub notes : List Note
  pub refused : Bool

-- one that has appended, published and noted nothing
abbrev pub new_feeder : Gather → PublisherId → FeederView
new_feeder gather publisher = record {
  gather = gather;
  publisher = publisher;
  appended = [];
  published = [];
  notes = [];
  refused = false;
}

-- Published within gathered: what is published was appended before, and what was appended was
-- gathered before: all of that, as long as no turn was refused memory.
pub record IsPublishedGathered (feeder : FeederView) : Type 0 where
  pub front_of_appended : IsPrefix feeder.published feeder.appended
  pub front_of_gathered : IsPrefix feeder.appended (gathered feeder.gather)
  pub all : feeder.refused ≡ false → feeder.appended ≡ gathered feeder.gather

-- The first list is a front of the second: all of it, unless memory was refused.
pub record IsGatheredFront (appended all : List Entry) (refused : Bool) : Type 0 where
  pub front : Extends appended all
  pub whole : refused ≡ false → appended ≡ all
