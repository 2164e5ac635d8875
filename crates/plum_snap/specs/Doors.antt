-- A place at the published board, and when a count of refusals tells of one.
use Rattle.std.specs.Prelude.{ℕ, ◌≡◌, ◌<◌, ◌⊎◌, List}
use mathlib.Core.List.{IsPrefix}
use Rattle.plum_base.specs.declared.entry.Entry.{Entry}
use Rattle.plum_base.specs.Counting.{COUNT_END}
use Rattle.plum_base.specs.Sites.{SitesView}
use Rattle.plum_snap.specs.declared.snapshot.Snapshot.{Snapshot}
use Rattle.plum_snap.specs.Fronts.{PublisherId}
use Rattle.plum_snap.specs.Snapshots.{IsRight}

-- the count rose, or stands at its last value
abbrev pub Rose : ℕ → ℕ → Type 0
Rose before now = (before < now) ⊎ (now ≡ COUNT_END)

-- a place at the published board: whose it is, of which sites, what has been seen from it, and how
-- often it was shut
pub record EntranceView : Type 0 where
  pub publisher : PublisherId
  pub sites : SitesView
  pub seen : List Entry
  pub shut : ℕ

-- the same, from inside: what is shown there
pub record InsideView : Type 0 where
  pub publisher : PublisherId
  pub shown : Snapshot
  pub shut : ℕ

-- the place that is left, once what is shown was seen
abbrev pub left_from : InsideView → EntranceView
left_from inside = record {
  publisher = inside.publisher;
  sites = inside.shown.board.sites;
  seen = inside.shown.front.entries;
  shut = inside.shut;
}

-- What is shown inside is right. It is of the same publisher and sites, and begins with all that
-- had been seen.
pub record LetsIn (before : EntranceView) (inside : InsideView) : Type 0 where
  pub right : IsRight inside.shown
  pub publisher : inside.publisher ≡ before.publisher
  pub sites : inside.shown.board.sites ≡ before.sites
  pub goes_on : IsPrefix before.seen inside.shown.front.entries
  pub shut : inside.shut ≡ before.shut

-- It was shut, which was counted. All else is as before.
pub record TurnsAway (before after : EntranceView) : Type 0 where
  pub rose : Rose before.shut after.shut
  pub rest : after ≡ record before { shut = after.shut }
