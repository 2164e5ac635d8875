-- The text of an intensity says which it is.
use Rattle.std.proofs.Common.{◌≡◌, ℕ, zero, suc, ◌+◌, ◌<◌, ◌≤◌, ◌^◌, ◌/◌, ◌%◌, ℤ, pos, negsuc, List}
use Rattle.std.proofs.Common.{[], ◌∷◌}
use Rattle.std.proofs.Common.{◌++◌, length, get_or, refl, sym, ◌∙◌, ap, arith, length-append, lit<}
use Rattle.std.proofs.lemmas.Fmt.{decimal_digit, decimal_nonempty, first_decimal, decimal_injective}
use Rattle.std.proofs.lemmas.List.{get_or_append_left}
use Rattle.std.proofs.Math.IntN.{nat_abs}
use Rattle.std.specs.Prelude.{decimal}
use Rattle.plum_scale.specs.Tenths.{magnitude_text, tenths_text}

-- Texts that end in two bytes are equal only where the parts before them and the ends are.
same_ends : (xs ys : List ℕ) (c d e : ℕ) → xs ++ c ∷ d ∷ [] ≡ ys ++ c ∷ e ∷ []
    → (xs ≡ ys) × (d ≡ e)
same_ends [] [] c d e is = (refl, cc)
same_ends [] (y ∷ ys) c d e is =
    absurd (omega (arith, ap length is, length-append ys (c ∷ e ∷ [])))
same_ends (x ∷ xs) [] c d e is =
    absurd (omega (arith, ap length is, length-append xs (c ∷ d ∷ [])))
same_ends (x ∷ xs) (y ∷ ys) c d e is =
    let tails : xs ++ c ∷ d ∷ [] ≡ ys ++ c ∷ e ∷ [] = cc in
    let same = same_ends xs ys c d e tails in
    (cc, same.1)

-- the text of a magnitude, by its last digit
magnitude_text-digit : (n : ℕ) → magnitude_text n ≡ decimal (n / 10) ++ 46 ∷ (48 + n % 10) ∷ []
magnitude_text-digit n =
    ap (λ digit. decimal (n / 10) ++ 46 ∷ digit) (decimal_digit (n % 10) (omega arith))

-- A text is that of one magnitude.
magnitude_text-injective : (m n : ℕ) → m ≤ 2 ^ 15 → n ≤ 2 ^ 15
    → magnitude_text m ≡ magnitude_text n → m ≡ n
magnitude_text-injective m n m-in n-in is =
    let same = same_ends (decimal (m / 10)) (decimal (n / 10)) 46 (48 + m % 10) (48 + n % 10)
    (sym (magnitude_text-digit m) ∙ is ∙ magnitude_text-digit n) in
    let whole = decimal_injective (m / 10) (n / 10) (omega arith) (omega arith) same.0 in
    omega arith

-- A number is written with a digit in front.
first_is_digit : (n : ℕ) → n < 2 ^ 64 → 47 < get_or (decimal n) 0 0
first_is_digit zero small = rw (decimal_digit 0 (lit< tt)) (lit< tt)
first_is_digit (suc n) small = omega (arith, first_decimal (suc n) (omega arith) small)

-- No text of a magnitude begins with the sign.
magnitude_text-unsigned : (n : ℕ) (text : List ℕ) → n ≤ 2 ^ 15 → magnitude_text n ≡ 45 ∷ text → ⊥
magnitude_text-unsigned n text n-in is =
    let small : n / 10 < 2 ^ 64 = omega arith in
    omega (
      arith,
      first_is_digit (n / 10) small,
      ap (λ bytes. get_or bytes 0 0) is,
      get_or_append_left (decimal (n / 10)) (46 ∷ decimal (n % 10)) 0 0
          (decimal_nonempty (n / 10) small),
    )

-- A text is that of one intensity at most, within what sixteen bits hold.
pub tenths_text-injective : (t u : ℤ) → nat_abs t ≤ 2 ^ 15 → nat_abs u ≤ 2 ^ 15
    → tenths_text t ≡ tenths_text u → t ≡ u
tenths_text-injective (pos m) (pos n) t-in u-in is =
    ap pos (magnitude_text-injective m n t-in u-in is)
tenths_text-injective (pos m) (negsuc n) t-in u-in is =
    absurd (magnitude_text-unsigned m _ t-in is)
tenths_text-injective (negsuc m) (pos n) t-in u-in is =
    absurd (magnitude_text-unsigned n _ u-in (sym is))
tenths_text-injective (negsuc m) (negsuc n) t-in u-in is =
    let digits : magnitude_text (suc m) ≡ magnitude_text (suc n) = cc in
    let same : suc m ≡ suc n = magnitude_text-injective (suc m) (suc n) t-in u-in digits in
    ap negsuc (omega arith)
