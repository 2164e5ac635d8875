-- The text of an intensity in tenths (the project's own format).
use Rattle.std.specs.Prelude.{ℕ, suc, ◌/◌, ◌%◌, ℤ, pos, negsuc, List, ◌∷◌, ◌++◌, decimal}

-- the whole part, a point and one digit
abbrev pub magnitude_text : ℕ → List ℕ
magnitude_text n = decimal (n / 10) ++ 46 ∷ decimal (n % 10)

-- tenths, with a `-` where negative
abbrev pub tenths_text : ℤ → List ℕ
tenths_text (pos n) = magnitude_text n
tenths_text (negsuc n) = 45 ∷ magnitude_text (suc n)
