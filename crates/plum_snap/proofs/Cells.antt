-- The cells of a book, by their keys.
use Rattle.std.proofs.Common.{◌≡◌, ◌≢◌, ℕ, zero, suc, ◌<◌, true, false, List, [], ◌∷◌, ◌++◌}
use Rattle.std.proofs.Common.{length, set, refl, ap, arith}
use Rattle.logbook.specs.Pages.{Cell, cell}

-- a cell more, which is not at home, changes none
pub cell_more : (cells : List Cell) (k : ℕ) → cell (cells ++ (0, false) ∷ []) k ≡ cell cells k
cell_more [] zero = refl
cell_more [] (suc k) = refl
cell_more (c ∷ cells) zero = refl
cell_more (c ∷ cells) (suc k) = cell_more cells k

pub cell_set : (cells : List Cell) (k : ℕ) (c : Cell) → k < length cells
    → cell (set cells k c) k ≡ c
cell_set [] k c below = absurd (omega arith)
cell_set (x ∷ cells) zero c below = refl
cell_set (x ∷ cells) (suc k) c below = cell_set cells k c (omega arith)

pub cell_other : (cells : List Cell) (k j : ℕ) (c : Cell) → j ≢ k
    → cell (set cells k c) j ≡ cell cells j
cell_other [] k j c apart = refl
cell_other (x ∷ cells) zero zero c apart = absurd (apart refl)
cell_other (x ∷ cells) zero (suc j) c apart = refl
cell_other (x ∷ cells) (suc k) zero c apart = refl
cell_other (x ∷ cells) (suc k) (suc j) c apart =
    cell_other cells k j c (λ same. apart (ap suc same))

-- what is at home stays there where another comes home
pub home_set : (cells : List Cell) (k v j : ℕ) → (cell cells j).1 ≡ true
    → (cell (set cells k (v, true)) j).1 ≡ true
home_set [] k v j home = home
home_set (x ∷ cells) zero v zero home = refl
home_set (x ∷ cells) zero v (suc j) home = home
home_set (x ∷ cells) (suc k) v zero home = home
home_set (x ∷ cells) (suc k) v (suc j) home = home_set cells k v j home
