-- Marks in turn.
use Rattle.std.proofs.Common.{◌≡◌, ℕ, ◌<◌, ◌≤◌, true, false, List, [], ◌∷◌, ◌++◌}
use Rattle.std.proofs.Common.{refl, sym, arith, true≢false, ◌∙◌}
use Rattle.logbook.specs.Pages.{Cell, cell}
use Rattle.plum_snap.specs.declared.limit.Mark.{Mark}
use Rattle.plum_snap.specs.Limits.{limit_of, key_of, AreInTurn}

-- the limit and the key after one mark more
pub limit_push : (marks : List Mark) (m : Mark) → limit_of (marks ++ m ∷ []) ≡ m.limit
limit_push [] m = refl
limit_push (n ∷ []) m = refl
limit_push (n ∷ o ∷ marks) m = limit_push (o ∷ marks) m

pub key_push : (marks : List Mark) (m : Mark) → key_of (marks ++ m ∷ []) ≡ m.key
key_push [] m = refl
key_push (n ∷ []) m = refl
key_push (n ∷ o ∷ marks) m = key_push (o ∷ marks) m

-- what is at home may become more
pub turns_stay : (cells later : List Cell)
    → ((k : ℕ) → (cell cells k).1 ≡ true → (cell later k).1 ≡ true)
    → (marks : List Mark) → AreInTurn cells marks → AreInTurn later marks
turns_stay cells later stay [] turns = turns
turns_stay cells later stay (m ∷ []) turns = turns
turns_stay cells later stay (m ∷ n ∷ marks) turns = (
  turns.0,
  turns.1,
  stay m.key turns.2,
  turns_stay cells later stay (n ∷ marks) turns.3,
)

-- The first limit is no greater than the last.
pub first_below : (cells : List Cell) (m : Mark) (marks : List Mark) → AreInTurn cells (m ∷ marks)
    → m.limit ≤ limit_of (m ∷ marks)
first_below cells m [] turns = omega arith
first_below cells m (n ∷ marks) turns =
    omega (arith, turns.1, first_below cells n marks turns.3)

-- more marks, no smaller limit
pub limits_rise : (cells : List Cell) (marks more : List Mark) → AreInTurn cells (marks ++ more)
    → limit_of marks ≤ limit_of (marks ++ more)
limits_rise cells [] more turns = omega arith
limits_rise cells (m ∷ []) more turns = first_below cells m more turns
limits_rise cells (m ∷ n ∷ marks) more turns = limits_rise cells (n ∷ marks) more turns.3

-- no limit, no mark
pub none_yet : (cells : List Cell) (marks : List Mark) → AreInTurn cells marks
    → limit_of marks ≡ 0 → marks ≡ []
none_yet cells [] turns is = refl
none_yet cells (m ∷ []) turns is = absurd (omega (arith, turns, is))
none_yet cells (m ∷ n ∷ marks) turns is =
    absurd (omega (arith, turns.0, first_below cells m (n ∷ marks) turns, is))

-- Marks whose pen is not used up are all.
pub are_all : (cells : List Cell) (marks more : List Mark) → AreInTurn cells (marks ++ more)
    → 0 < limit_of marks → (cell cells (key_of marks)).1 ≡ false → more ≡ []
are_all cells [] more turns some away = absurd (omega (arith, some))
are_all cells (m ∷ []) [] turns some away = refl
are_all cells (m ∷ []) (n ∷ more) turns some away = absurd (true≢false (sym turns.2 ∙ away))
are_all cells (m ∷ n ∷ marks) more turns some away =
    are_all cells (n ∷ marks) more turns.3 some away

-- one mark more, where the pen of the last is used up
pub turns_push : (cells : List Cell) (marks : List Mark) (m : Mark) → AreInTurn cells marks
    → 0 < limit_of marks → limit_of marks ≤ m.limit → (cell cells (key_of marks)).1 ≡ true
    → AreInTurn cells (marks ++ m ∷ [])
turns_push cells [] m turns some rises home = absurd (omega (arith, some))
turns_push cells (n ∷ []) m turns some rises home = (turns, rises, home, omega (arith, some, rises))
turns_push cells (n ∷ o ∷ marks) m turns some rises home =
    (turns.0, turns.1, turns.2, turns_push cells (o ∷ marks) m turns.3 some rises home)
