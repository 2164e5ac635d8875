-- The snapshot rule: what is published is the board of its front, and what each end has seen is a
-- front of it.
use Rattle.std.specs.Prelude.{◌≡◌, ℕ, true, false, List, [], drop, fold}
use mathlib.Core.Option.{some}
use mathlib.Core.List.{IsPrefix}
use lib.ListN.{get_elem?}
use Rattle.left_right.specs.declared.Absorb.{Ghosts}
use Rattle.left_right.specs.declared.writer.Writer.{Writer}
use Rattle.plum_snap.specs.declared.snapshot.Snapshot.{Snapshot}
use Rattle.plum_snap.specs.declared.snapshot.Addition.{Addition}
use Rattle.plum_snap.specs.declared.rule.View.{View}
use Rattle.plum_snap.specs.Snapshots.{IsRight, snapshot_after}

-- an end that was told nothing
abbrev pub nobody : View
nobody = record {
  known = false;
  seen = record {
    board = record { sites = record { stations = []; targets = [] }; values = []; count = 0 };
    front = record {
      list = record { number = 0; log_name = 0; cells_name = 0 };
      entries = [];
    };
  };
}

-- an end that has seen this
abbrev pub saw : Snapshot → View
saw shown = record { known = true; seen = shown }

-- What an end has seen is a front of what is published. One that was told anything is of the same
-- list and the same sites.
pub record Fits (shown : Snapshot) (end : View) : Type 0 where
  pub front : IsPrefix end.seen.front.entries shown.front.entries
  pub list : end.known ≡ true → end.seen.front.list ≡ shown.front.list
  pub sites : end.known ≡ true → end.seen.board.sites ≡ shown.board.sites

-- The rule.
pub record Holds (shown : Snapshot) (ends : List View) : Type 0 where
  pub right : IsRight shown
  pub fits : (n : ℕ) (end : View) → get_elem? ends n ≡ some end → Fits shown end

-- An end that looks has seen what is published, which is right, and fits what it had seen.
pub record Sees (before : View) (earlier later : Snapshot) (after : View) : Type 0 where
  pub seen : after ≡ saw later
  pub right : IsRight later
  pub fits : Fits later before

module _ {V P A S : Type 0} {g : Ghosts Snapshot Addition S} where
  -- what the next publish shows
  abbrev pub next_of : Writer Snapshot Addition V P A S g → Snapshot
  next_of writer =
      fold snapshot_after writer.desk.shown.value (drop writer.behind writer.log.items)

  -- the same is shown and pending
  abbrev pub IsAsBefore : Writer Snapshot Addition V P A S g → Writer Snapshot Addition V P A S g
      → Type 0
  IsAsBefore before after = (after.desk.shown ≡ before.desk.shown)
      × (after.log ≡ before.log) × (after.behind ≡ before.behind)
