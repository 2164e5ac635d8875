-- What is published: a board, with the front that it is the board of.
use Rattle.std.specs.Prelude.{◌≡◌}
use Rattle.plum_board.specs.Board.{StandsFor, board_after}
use Rattle.plum_snap.specs.declared.snapshot.Snapshot.{Snapshot}
use Rattle.plum_snap.specs.declared.snapshot.Addition.{Addition}
use Rattle.plum_snap.specs.Fronts.{Extends}

-- The board is that of the front.
abbrev pub IsRight : Snapshot → Type 0
IsRight shown = StandsFor shown.board shown.board.sites shown.front.entries

-- with an entry more, and the front that it ends
abbrev pub snapshot_after : Snapshot → Addition → Snapshot
snapshot_after shown addition = record {
  board = board_after shown.board addition.entry;
  front = addition.front;
}

-- The later one is the earlier with some entries more.
pub record Grows (earlier later : Snapshot) : Type 0 where
  pub right : IsRight later
  pub sites : later.board.sites ≡ earlier.board.sites
  pub list : later.front.list ≡ earlier.front.list
  pub longer : Extends earlier.front.entries later.front.entries
