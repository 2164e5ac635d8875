-- The rule of a publisher's list, which only grows: the one word that is shared is its length.
use Rattle.std.specs.Prelude.{◌≡◌, ℕ, true, List, [], ◌∷◌, ◌++◌, length}
use Rattle.logbook.specs.Pages.{Cell, Step, View, Book, Named}
use Rattle.plum_base.specs.declared.entry.Entry.{Entry}

-- a book has two words, of which the list leaves the second at 0
pub record IsKept (cells : List Cell) (entries : List Entry) : Type 0 where
  pub words : cells ≡ (length entries, true) ∷ (0, true) ∷ []

-- the word of this book
abbrev pub head_of : Book → Named
head_of book = record { tracked = true; key = 0; book = book }

-- Where the length was the one expected, the entry was added to all that had been seen.
abbrev pub Adds : Step Entry → View Entry ℕ → ℕ → View Entry ℕ → Type 0
Adds step before found after = found ≡ step.old → after.0 ≡ before.0 ++ step.ask ∷ []
