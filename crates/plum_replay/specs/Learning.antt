-- Sessions that learn of what is published.
use Rattle.std.specs.Prelude.{◌≡◌, ℕ, ◌<◌, List, length, slice_index_or}
use mathlib.Core.List.{IsPrefix}
use Rattle.plum_base.specs.declared.entry.Entry.{Entry}
use Rattle.plum_snap.specs.Sessions.{SessionView}

-- The session has seen all that is published, which begins with what it had seen.
pub record HasLearned (published : List Entry) (before after : SessionView) : Type 0 where
  pub goes_on : IsPrefix before.seen published
  pub after_is : after ≡ record before { seen = published }

-- So has each of these.
pub record HaveLearned (published : List Entry) (before after : List SessionView) : Type 0 where
  pub long : length after ≡ length before
  pub each : (a : ℕ) (d : SessionView) → a < length before
      → HasLearned published (slice_index_or before a d) (slice_index_or after a d)
