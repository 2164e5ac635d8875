-- The form of a field (the project's own rule).
use Rattle.std.specs.Prelude.{◌≡◌, ◌≤◌, ◌⊎◌, ℕ, ℤ, pos, neg_ℤ, List, ◌∷◌, length}
use Rattle.std.specs.Str.Parse.{IsNumeral, digits_value}

-- the most digits of a number field
abbrev pub MOST_DIGITS : ℕ
MOST_DIGITS = 9

-- one decimal digit or more, and not too many
abbrev pub IsShortNumeral : List ℕ → Type 0
IsShortNumeral digits = IsNumeral 10 digits × (length digits ≤ MOST_DIGITS)

-- a number field, such digits or `-` (byte 45) and such digits, and the number that it spells
abbrev pub Spells : List ℕ → ℤ → Type 0
Spells field n =
    (digits : List ℕ) × IsShortNumeral digits
    × (((field ≡ digits) × (n ≡ pos (digits_value 10 digits)))
    ⊎ ((field ≡ 45 ∷ digits) × (n ≡ neg_ℤ (pos (digits_value 10 digits)))))

-- a field that spells a number
abbrev pub IsNumber : List ℕ → Type 0
IsNumber field = (n : ℤ) × Spells field n
