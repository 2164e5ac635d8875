-- What a turn of the feeder does (the project's own).
use Rattle.std.specs.Prelude.{◌≡◌, ℕ, ◌+◌, ◌≤◌, ◌⊎◌, true, false, List, [], ◌∷◌, ◌++◌, length, map}
use mathlib.Core.List.{IsPrefix}
use Rattle.plum_base.specs.declared.entry.Entry.{Entry}
use Rattle.plum_lanes.specs.Gathering.{gathered, FoundEmpty}
use Rattle.plum_centre.specs.declared.fed.Fed.{Fed}
use Rattle.plum_centre.specs.declared.fed.Fed.TheVariants.{One, Published, Empty}
use Rattle.plum_base.specs.Note.{note_of}
use Rattle.plum_centre.specs.Feeder.{FeederView, BATCH}

-- At least so many entries are pending.
abbrev pub ArePending : ℕ → FeederView → Type 0
ArePending count feeder = length feeder.published + count ≤ length feeder.appended

-- It gathered an entry, which is pending and noted then: no whole batch was pending.
pub record FeedsOne (before after : FeederView) : Type 0 where
  pub no_batch : ¬ ArePending BATCH before
  pub entry : Entry
  pub grew : gathered after.gather ≡ gathered before.gather ++ entry ∷ []
  pub rest : after ≡ record before {
    gather = after.gather;
    appended = before.appended ++ entry ∷ [];
    notes = before.notes ++ note_of entry ∷ [];
  }

-- It published all that was pending: because that was a whole batch, or because something was and
-- the queue was empty.
pub record FeedsBoard (before after : FeederView) : Type 0 where
  pub cause : ArePending BATCH before
      ⊎ (ArePending 1 before × FoundEmpty before.gather after.gather)
  pub kept : gathered after.gather ≡ gathered before.gather
  pub rest : after ≡ record before { gather = after.gather; published = before.appended }

-- The queue was empty, and nothing was pending.
pub record FeedsNothing (before after : FeederView) : Type 0 where
  pub none_pending : before.published ≡ before.appended
  pub found : FoundEmpty before.gather after.gather
  pub kept : gathered after.gather ≡ gathered before.gather
  pub rest : after ≡ record before { gather = after.gather }

-- what each answer of a turn tells
abbrev pub IsFed : FeederView → Fed → FeederView → Type 0
IsFed before One after = FeedsOne before after
IsFed before Published after = FeedsBoard before after
IsFed before Empty after = FeedsNothing before after

-- The turn did what it tells, and no turn was refused memory.
pub record Feeds (before : FeederView) (fed : Fed) (after : FeederView) : Type 0 where
  pub allowed : after.refused ≡ false
  pub does : IsFed before fed after

-- Memory was refused, and what is published is as before.
pub record IsRefused (before after : FeederView) : Type 0 where
  pub refused_then : after.refused ≡ true
  pub published : after.published ≡ before.published

-- The feeder went on, by one turn or by many: it gathered these more and, unless it was refused
-- memory, noted them; what it published goes on.
pub record GoesOn (before after : FeederView) : Type 0 where
  pub more : List Entry
  pub grew : gathered after.gather ≡ gathered before.gather ++ more
  pub noted : after.refused ≡ false → after.notes ≡ before.notes ++ map note_of more
  pub not_before : after.refused ≡ false → before.refused ≡ false
  pub published_more : IsPrefix before.published after.published
  pub same_publisher : after.publisher ≡ before.publisher
