-- Up to where a publisher's list is published, and how that goes on.
use Rattle.std.specs.Prelude.{◌≡◌, ◌<◌, ◌≤◌, ℕ, true, List, [], ◌∷◌, ◌++◌, length, None}
use Rattle.std.specs.List.{last_or}
use Rattle.core.specs.Option.{option_map_or}
use Rattle.logbook.specs.Pages.{Cell, cell, Step, View, Book, Named, may_make}
use Rattle.plum_snap.specs.declared.limit.Mark.{Mark}

-- the limit after these marks: fronts that are shorter are published. At first none is.
abbrev pub limit_of : List Mark → ℕ
limit_of marks = option_map_or (λ m. m.limit) (last_or None marks) 0

-- the key of the pen that adds the mark after these
abbrev pub key_of : List Mark → ℕ
key_of marks = option_map_or (λ m. m.key) (last_or None marks) 0

-- The limits are over 0 and never fall, and the pen of each mark but the last is used up.
abbrev pub AreInTurn : List Cell → List Mark → Type 0
AreInTurn cells [] = Unit {0}
AreInTurn cells (m ∷ []) = 0 < m.limit
AreInTurn cells (m ∷ n ∷ marks) = (0 < m.limit) × (m.limit ≤ n.limit)
    × ((cell cells m.key).1 ≡ true) × AreInTurn cells (n ∷ marks)

-- The rule: the first word is the limit.
pub record IsLimited (cells : List Cell) (marks : List Mark) : Type 0 where
  pub some : 0 < length cells
  pub limit : cell cells 0 ≡ (limit_of marks, true)
  pub turns : AreInTurn cells marks

-- the word of this book
abbrev pub limit_word : Book → Named
limit_word book = record { tracked = true; key = 0; book = book }

-- the mark that a step adds
abbrev pub mark_of : Step Mark → Mark
mark_of step = record { limit = step.new; key = step.ask.key }

-- a pen was made, for a word that no other has
abbrev pub MakesPen : Step Mark → View Mark ℕ → ℕ → View Mark ℕ → Type 0
MakesPen step before found after = after.1.0.right ≡ may_make

-- Where there was no mark, this is the first.
abbrev pub Begins : Step Mark → View Mark ℕ → ℕ → View Mark ℕ → Type 0
Begins step before found after =
    found ≡ 0 → (after.0 ≡ mark_of step ∷ []) × (after.1.0 ≡ before.1.0)

-- Whoever has the pen of the last mark knows the limit, and the new mark comes behind all that was
-- seen.
abbrev pub Raises : Step Mark → View Mark ℕ → ℕ → View Mark ℕ → Type 0
Raises step before found after =
    (limit_of before.0 ≡ step.old) × (after.0 ≡ before.0 ++ mark_of step ∷ [])

-- what was found is the limit after the marks that are then seen
abbrev pub Looks : Step Mark → View Mark ℕ → ℕ → View Mark ℕ → Type 0
Looks step before found after = found ≡ limit_of after.0

-- a publisher's limit, and whose it is
pub record LimitView : Type 0 where
  pub book : Book
  pub limit : ℕ
