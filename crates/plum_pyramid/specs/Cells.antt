-- How a pyramid keeps its squares: those that have stations alone, each before all squares that lie
-- within it. The stations stand in an order in which those of a square are a run.
use Rattle.std.specs.Prelude.{◌≡◌, ◌≢◌, ℕ, ◌+◌, ◌<◌, ◌≤◌, ℤ, pos, ◌+ℤ◌, ◌≤ℤ◌, List, length}
use Rattle.std.specs.Prelude.{slice_get}
use Rattle.std.specs.Prelude.{slice_index_or, All, Option, Some, ◌⊎◌}
use Rattle.std.specs.List.{Contains}
use Rattle.plum_base.specs.declared.numbers.Point.{Point}
use Rattle.plum_base.specs.declared.numbers.Tenths.{Tenths}
use Rattle.plum_base.specs.declared.sites.StationSite.{StationSite}
use Rattle.plum_base.specs.Sites.{AreStations}
use Rattle.plum_geo.specs.Prediction.{AreOnScale}
use Rattle.plum_geo.specs.Shown.{value_in}
use Rattle.plum_geo.specs.Square.{IsSquare, IsWithin}
use Rattle.plum_geo.specs.declared.square.Square.{Square}
use Rattle.plum_pyramid.specs.declared.layout.Cell.{Cell}
use Rattle.plum_pyramid.specs.declared.layout.Layout.{Layout}
use Rattle.plum_pyramid.specs.declared.layout.Member.{Member}
use Rattle.plum_pyramid.specs.declared.searching.Search.{Search}
use Rattle.plum_pyramid.specs.Maxima.{said, said_at, IsGreatest}

-- at least half of a side, and no more than it
abbrev pub IsHalf : ℤ → ℤ → Type 0
IsHalf half side = (pos 1 ≤ℤ half) × (half ≤ℤ side) × (side ≤ℤ (half +ℤ half))

-- a cell with a run that begins where all runs end
abbrev pub past : ℕ → Cell
past end = record {
  square = record { x = pos 0; y = pos 0; side = pos 1 };
  first = end;
  end = end;
  skip = 0;
}

-- the k-th cell, from 0, where all runs end at this position
abbrev pub cell_of : List Cell → ℕ → ℕ → Cell
cell_of cells end k = slice_index_or cells k (past end)

-- Each member from position a up to b lies in the square.
abbrev pub AreHeld : List Member → ℕ → ℕ → Square → Type 0
AreHeld members a b square = (p : ℕ) (m : Member) → a ≤ p → p < b → slice_get members p ≡ Some m
    → IsWithin m.site.at square

-- Cell k of so many: its run lies in its square, the cells within it stand behind it and before the
-- one that it skips to, the first of them has its run begin where its own does, and the one that it
-- skips to has its run begin where its own ends.
pub record IsCell (members : List Member) (cells : ℕ → Cell) (size k : ℕ) : Type 0 where
  pub square : IsSquare (cells k).square
  pub run : (cells k).first ≤ (cells k).end
  pub bound : (cells k).end ≤ length members
  pub held : AreHeld members (cells k).first (cells k).end (cells k).square
  pub ahead : k < (cells k).skip
  pub bounded : (cells k).skip ≤ size
  pub next : (cells (cells k).skip).first ≡ (cells k).end
  pub inner : k + 1 < (cells k).skip → (cells (k + 1)).first ≡ (cells k).first
  pub nested : (j : ℕ) → k ≤ j → j < (cells k).skip → (cells j).skip ≤ (cells k).skip

-- All cells from k on are cells.
abbrev pub AreCells : List Member → (ℕ → Cell) → ℕ → ℕ → Type 0
AreCells members cells from size = (k : ℕ) → from ≤ k → k < size → IsCell members cells size k

-- Cells are added for a run. Where the cells before had all runs end at its beginning, the cells
-- after have all runs end at its end; those before stay, and the first one added begins with it and
-- has all others within it.
pub record Grows (members : List Member) (before after : List Cell) (first end : ℕ)
    : Type 0 where
  pub longer : length before < length after
  pub kept : (k : ℕ) → k < length before → cell_of after end k ≡ cell_of before first k
  pub begins : (cell_of after end (length before)).first ≡ first
  pub closes : (cell_of after end (length before)).skip ≡ length after
  pub cells : (from : ℕ) → AreCells members (cell_of before first) from (length before)
      → AreCells members (cell_of after end) from (length after)

-- The members are the stations, each with its number, in some order.
pub record AreMembers (stations : List StationSite) (members : List Member) : Type 0 where
  pub lawful : AreStations stations
  pub listed : All (λ m. slice_get stations m.number.0 ≡ Some m.site) members
  pub complete : (n : ℕ) (site : StationSite) → slice_get stations n ≡ Some site
      → Contains members (record { site = site; number = record { 0 = n } })

-- All cells of the members: the run of the first one is all members, and it has all others within
-- it.
pub record AreCellsOf (members : List Member) (cells : List Cell) : Type 0 where
  pub each : AreCells members (cell_of cells (length members)) 0 (length cells)
  pub begins : (cell_of cells (length members) 0).first ≡ 0
  pub root : (cell_of cells (length members) 0).skip ≡ length cells

-- the members are the stations, and the cells are theirs
pub record IsLaid (layout : Layout) : Type 0 where
  pub members : AreMembers layout.stations.items layout.members.items
  pub cells : AreCellsOf layout.members.items layout.cells.items

-- what each station has, by its number
pub record HasValues (layout : Layout) (values : List (Option Tenths)) : Type 0 where
  pub laid : IsLaid layout
  pub count : length values ≡ length layout.stations.items
  pub scale : AreOnScale values

-- the k-th cell of a layout
abbrev pub cell_at : Layout → ℕ → Cell
cell_at layout k = cell_of layout.cells.items (length layout.members.items) k

-- This is the greatest of what the stations of cell k say.
abbrev pub IsMaximum : Layout → List (Option Tenths) → ℕ → Option Tenths → Type 0
IsMaximum layout values k greatest =
    IsGreatest (said values) layout.members.items (cell_at layout k).first (cell_at layout k).end
    greatest

-- No station of cell k has this number.
abbrev pub IsWithout : Layout → ℕ → ℕ → Type 0
IsWithout layout number k =
    (p : ℕ) (m : Member) → (cell_at layout k).first ≤ p → p < (cell_at layout k).end
    → slice_get layout.members.items p ≡ Some m → m.number.0 ≢ number

-- each cell has its maximum
pub record AreMaxima (layout : Layout) (values maxima : List (Option Tenths)) : Type 0 where
  pub count : length maxima ≡ length layout.cells.items
  pub each : (k : ℕ) → k < length layout.cells.items
      → IsMaximum layout values k (value_in maxima k)

-- The maxima of all cells without one station are right; those of the others may be of before.
pub record AreMaximaWithout (layout : Layout) (values maxima : List (Option Tenths)) (number : ℕ)
    : Type 0 where
  pub count : length maxima ≡ length layout.cells.items
  pub each : (k : ℕ) → k < length layout.cells.items → IsWithout layout number k
      → IsMaximum layout values k (value_in maxima k)

-- The maxima of cell k and of those within it are right, and all others are as before.
pub record IsRenewed (layout : Layout) (values before after : List (Option Tenths)) (k : ℕ)
    : Type 0 where
  pub within : (j : ℕ) → k ≤ j → j < (cell_at layout k).skip
      → IsMaximum layout values j (value_in after j)
  pub beyond : (j : ℕ) → (j < k) ⊎ ((cell_at layout k).skip ≤ j)
      → value_in after j ≡ value_in before j

-- how far a search has come, and the best at a place so far: of all members before the cell that is
-- next
pub record HasSearched (layout : Layout) (values : List (Option Tenths)) (place : Point)
    (search : Search) : Type 0 where
  pub bound : search.next ≤ length layout.cells.items
  pub best : IsGreatest (said_at values place) layout.members.items 0
      (cell_at layout search.next).first search.best
