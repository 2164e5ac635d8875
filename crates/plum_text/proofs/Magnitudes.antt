-- The text of a magnitude: its whole part, its point and its digit.
use Rattle.std.proofs.Common.{◌≡◌, ◌∙◌, ℕ, ◌+◌, ◌-◌, ◌/◌, ◌%◌, ◌<◌, ◌≤◌, ◌^◌, List, [], ◌∷◌, ◌++◌}
use Rattle.std.proofs.Common.{length, take, drop, get_or, decimal, sym, ap, subst, arith}
use Rattle.std.proofs.lemmas.Fmt.{decimal_digit, decimal_is_IsNumeral}
use Rattle.std.proofs.lemmas.Grind.{common_steps}
use Rattle.std.proofs.lemmas.List.{get_or_append_left}
use Rattle.std.proofs.lemmas.Str.Parse.{digit_at}
use Rattle.plum_scale.specs.Tenths.{magnitude_text}

-- A word ends in these two bytes, and this stands before them.
pub record EndsIn (word whole : List ℕ) (a b : ℕ) : Type 0 where
  pub long : 2 ≤ length word
  pub before : take (length word - 2) word ≡ whole
  pub first : get_or word (length word - 2) 0 ≡ a
  pub second : get_or word (length word - 1) 0 ≡ b

ends : (whole : List ℕ) (a b : ℕ) → EndsIn (whole ++ a ∷ b ∷ []) whole a b
ends whole a b = record {
  long = grind (arith, common_steps);
  before = grind (arith, common_steps);
  first = grind (arith, common_steps);
  second = grind (arith, common_steps);
}

-- It ends in a point and the last digit of the number.
pub magnitude_ends : (word : List ℕ) (n : ℕ) → word ≡ magnitude_text n
    → EndsIn word (decimal (n / 10)) 46 (48 + n % 10)
magnitude_ends word n is =
    let whole = decimal (n / 10) in
    let digit = decimal_digit (n % 10) (omega arith) in
    let same = is ∙ ap (λ digit. whole ++ 46 ∷ digit) digit in
    subst (λ w. EndsIn w whole 46 (48 + n % 10)) (sym same) (ends whole 46 (48 + n % 10))

-- It begins with a digit.
pub first_digit : (word : List ℕ) (n : ℕ) → n < 2 ^ 16 → word ≡ magnitude_text n
    → 48 ≤ get_or word 0 0
first_digit word n fits is =
    let whole = decimal (n / 10) in
    let numeral = decimal_is_IsNumeral (n / 10) (omega arith) in
    let some : 0 < length whole = numeral.0.0 in
    let digit = digit_at whole 0 numeral.0.1 some in
    let rest = 46 ∷ decimal (n % 10) in
    let same = ap (λ w. get_or w 0 0) is ∙ get_or_append_left whole rest 0 0 some in
    omega (arith, digit.0)

-- what stands behind a sign
pub behind : (word rest : List ℕ) (sign : ℕ) → word ≡ sign ∷ rest
    → take (length word - 1) (drop 1 word) ≡ rest
behind word rest sign is = grind (arith, common_steps)
