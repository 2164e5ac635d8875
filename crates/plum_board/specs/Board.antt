-- A board, and the entries that were applied to it.
use Rattle.std.specs.Prelude.{◌≡◌, ℕ, List, [], ◌∷◌, ◌++◌, length, Option, None, replicate}
use Rattle.plum_base.specs.declared.entry.Entry.{Entry}
use Rattle.plum_base.specs.declared.numbers.Tenths.{Tenths}
use Rattle.plum_base.specs.Counting.{count_after, one_more}
use Rattle.plum_base.specs.Sites.{SitesView}
use Rattle.plum_geo.specs.Shown.{AreShown, shown_after}

-- the sites of a board, what each station shows, and how many entries were applied
pub record BoardView : Type 0 where
  pub sites : SitesView
  pub values : List (Option Tenths)
  pub count : ℕ

-- The board of these sites after these entries. The count stands still at its end.
pub record StandsFor (board : BoardView) (sites : SitesView) (entries : List Entry) : Type 0 where
  pub same_sites : board.sites ≡ sites
  pub shown : AreShown board.values (length sites.stations) entries
  pub counted : board.count ≡ count_after (length entries)

-- the board of the empty history: no station shows a value
abbrev pub new_board : SitesView → BoardView
new_board sites = record {
  sites = sites;
  values = replicate (length sites.stations) None;
  count = 0;
}

-- the board after an entry more
abbrev pub board_after : BoardView → Entry → BoardView
board_after board entry = record {
  sites = board.sites;
  values = shown_after board.values entry;
  count = one_more board.count;
}

-- A board after some entries, and an entry more: it is the board after all of them.
abbrev pub StandsForOneMore : Type 0
StandsForOneMore = (board : BoardView) (sites : SitesView) (entries : List Entry) (entry : Entry)
    → StandsFor board sites entries
    → StandsFor (board_after board entry) sites (entries ++ entry ∷ [])
