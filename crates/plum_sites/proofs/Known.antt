-- What can be told of a field, of a row and of the sites before it.
use Rattle.std.proofs.Common.{◌≡◌, ◌⊎◌, ◌<◌, ◌≤◌, ℕ, zero, suc, ℤ, pos, negsuc, neg_ℤ, ◌≤ℤ◌}
use Rattle.std.proofs.Common.{List, [], ◌∷◌, length, get_or, All, Any, refl, sym, ap, ◌∙◌, subst}
use Rattle.std.proofs.Common.{inl, inr, arith}
use Rattle.std.proofs.lemmas.Bool.{cases_Bool, cases_eq, cases_lt, false≢true}
use Rattle.std.proofs.lemmas.Int.{ints, by_lt_z}
use Rattle.std.proofs.lemmas.List.Elements.{All-nil, All-cons, All-head, All-tail}
use Rattle.std.proofs.lemmas.Slice.Eq.{bytes_eq-Decides}
use Rattle.std.specs.Char.{digit_value}
use Rattle.std.specs.List.{AllZip}
use Rattle.std.specs.Str.{bytes_eq}
use Rattle.std.specs.Str.Parse.{AllDigits, digits_value}
use Rattle.plum_base.specs.Levels.{IsFactor}
use Rattle.plum_base.specs.Name.{IsNameByte, IsName}
use Rattle.plum_base.specs.Sites.{IsPlace, GRID_END}
use Rattle.plum_sites.specs.Fields.{IsShortNumeral, Spells, IsNumber}
use Rattle.plum_sites.proofs.SameNumbers.{point, tenths}

abbrev pub Known : Type 0 → Type 0
Known P = P ⊎ ¬ P

pub known_both : (P Q : Type 0) → Known P → Known Q → Known (P × Q)
known_both P Q (inl p) (inl q) = inl (p, q)
known_both P Q (inl p) (inr other) = inr (λ both. other both.1)
known_both P Q (inr other) q = inr (λ both. other both.0)

pub known_three : (P Q R : Type 0) → Known P → Known Q → Known R → Known (P × Q × R)
known_three P Q R (inl p) (inl q) (inl r) = inl (p, q, r)
known_three P Q R (inl p) (inl q) (inr other) = inr (λ all. other all.2)
known_three P Q R (inl p) (inr other) r = inr (λ all. other all.1)
known_three P Q R (inr other) q r = inr (λ all. other all.0)

pub known_four : (P Q R S : Type 0) → Known P → Known Q → Known R → Known S
    → Known (P × Q × R × S)
known_four P Q R S (inl p) (inl q) (inl r) (inl s) = inl (p, q, r, s)
known_four P Q R S (inl p) (inl q) (inl r) (inr other) = inr (λ all. other all.3)
known_four P Q R S (inl p) (inl q) (inr other) s = inr (λ all. other all.2)
known_four P Q R S (inl p) (inr other) r s = inr (λ all. other all.1)
known_four P Q R S (inr other) q r s = inr (λ all. other all.0)

pub known_either : (P Q : Type 0) → Known P → Known Q → Known (P ⊎ Q)
known_either P Q (inl p) q = inl (inl p)
known_either P Q (inr other) (inl q) = inl (inr q)
known_either P Q (inr first) (inr second) =
    inr (λ one. elim one [
      | inl p ↦ first p
      | inr q ↦ second q
    ])

pub known_less : (a b : ℕ) → Known (a < b)
known_less a b =
    elim (cases_lt a b) [
      | inl less ↦ inl less
      | inr above ↦ inr (λ less. absurd (omega arith))
    ]

pub known_at_most : (a b : ℕ) → Known (a ≤ b)
known_at_most a b =
    elim (cases_lt b a) [
      | inl above ↦ inr (λ within. absurd (omega arith))
      | inr within ↦ inl within
    ]

known_between : (low high n : ℕ) → Known ((low ≤ n) × (n ≤ high))
known_between low high n =
    known_both (low ≤ n) (n ≤ high) (known_at_most low n) (known_at_most n high)

known_below : (a b : ℤ) → Known (a ≤ℤ b)
known_below a b =
    by_lt_z b a (λ less. inr (λ within. absurd (omega (arith, ints)))) (λ within. inl within)

pub known_within : (low high z : ℤ) → Known ((low ≤ℤ z) × (z ≤ℤ high))
known_within low high z =
    known_both (low ≤ℤ z) (z ≤ℤ high) (known_below low z) (known_below z high)

pub known_place : (x y : ℤ) → Known (IsPlace (point x y))
known_place x y = known_both _ _ (known_within (pos 0) GRID_END x) (known_within (pos 0) GRID_END y)

pub known_factor : (t : ℤ) → Known (IsFactor (tenths t))
known_factor t = known_within (neg_ℤ (pos 100)) (pos 100) t

pub natural_of : (z : ℤ) → pos 0 ≤ℤ z → (n : ℕ) × (pos n ≡ z)
natural_of (pos n) some = (n, refl)
natural_of (negsuc n) some = absurd (omega (arith, ints))

pub known_all : {X : Type 0} (P : X → Type 0) → ((x : X) → Known (P x)) → (xs : List X)
    → Known (All P xs)
known_all P each [] = inl (All-nil P)
known_all P each (x ∷ xs) =
    elim (each x) [
      | inl here ↦ elim (known_all P each xs) [
        | inl rest ↦ inl (All-cons P x xs here rest)
        | inr other ↦ inr (λ all. other (All-tail P x xs all))
      ]
      | inr other ↦ inr (λ all. other (All-head P x xs all))
    ]

none_in : {X : Type 0} (P : X → Type 0) (x : X) (xs : List X) → ¬ P x → ¬ Any P xs → (k : ℕ)
    (y : X) → k < length (x ∷ xs) → get_or (x ∷ xs) k y ≡ y → P y → ⊥
none_in P x xs first rest zero y l is holds = first (subst P (sym is) holds)
none_in P x xs first rest (suc k) y l is holds = rest (k, y, omega arith, is, holds)

pub known_any : {X : Type 0} (P : X → Type 0) → ((x : X) → Known (P x)) → (xs : List X)
    → Known (Any P xs)
known_any P each [] = inr (λ w. let inside : w.0 < 0 = w.2 in absurd (omega arith))
known_any P each (x ∷ xs) =
    elim (each x) [
      | inl here ↦ inl (0, x, omega arith, refl, here)
      | inr first ↦ elim (known_any P each xs) [
        | inl w ↦ let inside : w.0 < length xs = w.2 in
            inl (suc w.0, w.1, omega arith, w.3, w.4)
        | inr rest ↦ inr (λ w. none_in P x xs first rest w.0 w.1 w.2 w.3 w.4)
      ]
    ]

known_name_byte : (b : ℕ) → Known (IsNameByte b)
known_name_byte b =
    known_either _ _ (known_between 65 90 b)
    (known_either _ _ (known_between 97 122 b)
    (known_either _ _ (known_between 48 57 b) (cases_eq b 95)))

pub known_name : (bytes : List ℕ) → Known (IsName bytes)
known_name bytes =
    elim (known_three _ _ _ (known_at_most 1 (length bytes)) (known_at_most (length bytes) 16)
    (known_all IsNameByte known_name_byte bytes)) [
      | inl all ↦ inl (record { some = all.0; few = all.1; each = all.2 })
      | inr other ↦ inr (λ name. other (name.some, name.few, name.each))
    ]

pub known_bytes : (xs ys : List ℕ) → Known (xs ≡ ys)
known_bytes xs ys =
    elim (cases_Bool (bytes_eq xs ys)) [
      | inl same ↦ inl ((bytes_eq-Decides xs ys).0 same)
      | inr other ↦ inr (λ is. false≢true (sym other ∙ (bytes_eq-Decides xs ys).1 is))
    ]

pub known_rows : (xs ys : List (List ℕ)) → Known (xs ≡ ys)
known_rows [] [] = inl refl
known_rows [] (y ∷ ys) = inr (λ is. let no : [] ≡ y ∷ ys = is in cc no)
known_rows (x ∷ xs) [] = inr (λ is. let no : x ∷ xs ≡ [] = is in cc no)
known_rows (x ∷ xs) (y ∷ ys) =
    elim (known_bytes x y) [
      | inl same ↦ elim (known_rows xs ys) [
        | inl rest ↦ let whole : x ∷ xs ≡ y ∷ ys = cc in inl whole
        | inr other ↦ inr (λ is. let rest : xs ≡ ys = cc in other rest)
      ]
      | inr other ↦ inr (λ is. let same : x ≡ y = cc in other same)
    ]

known_digits : (digits : List ℕ) → Known (AllDigits 10 digits)
known_digits [] = inl tt
known_digits (c ∷ cs) =
    known_both (digit_value c < 10) (AllDigits 10 cs) (known_less (digit_value c) 10)
    (known_digits cs)

known_short : (digits : List ℕ) → Known (IsShortNumeral digits)
known_short digits =
    known_both _ _
    (known_both _ _ (known_less 0 (length digits)) (known_digits digits))
    (known_at_most (length digits) 9)

-- a sign and digits
abbrev IsSigned : List ℕ → Type 0
IsSigned field = (digits : List ℕ) × (field ≡ 45 ∷ digits) × IsShortNumeral digits

known_signed : (field : List ℕ) → Known (IsSigned field)
known_signed [] = inr (λ s. let no : [] ≡ 45 ∷ s.0 = s.1 in cc no)
known_signed (c ∷ digits) =
    elim (cases_eq c 45) [
      | inl sign ↦ elim (known_short digits) [
        | inl short ↦ inl (digits, ap (λ t. t ∷ digits) sign, short)
        | inr other ↦ inr (λ s. let is : c ∷ digits ≡ 45 ∷ s.0 = s.1 in
            let same : s.0 ≡ digits = cc is in other (subst IsShortNumeral same s.2))
      ]
      | inr other ↦ inr (λ s. let is : c ∷ digits ≡ 45 ∷ s.0 = s.1 in
          let same : c ≡ 45 = cc is in other same)
    ]

no_number : (field digits : List ℕ) (n : ℤ) → ¬ IsShortNumeral field → ¬ IsSigned field
    → IsShortNumeral digits → ((field ≡ digits) × (n ≡ pos (digits_value 10 digits)))
    ⊎ ((field ≡ 45 ∷ digits) × (n ≡ neg_ℤ (pos (digits_value 10 digits)))) → ⊥
no_number field digits n plain signed short (inl a) =
    plain (subst IsShortNumeral (sym a.0) short)
no_number field digits n plain signed short (inr a) = signed (digits, a.0, short)

no_spelling : (field : List ℕ) (n : ℤ) → ¬ IsShortNumeral field → ¬ IsSigned field
    → Spells field n → ⊥
no_spelling field n plain signed is =
    no_number field is.0 n plain signed is.1 is.2

pub known_number : (field : List ℕ) → Known (IsNumber field)
known_number field =
    elim (known_short field) [
      | inl short ↦ inl (pos (digits_value 10 field), (field, short, inl (refl, refl)))
      | inr plain ↦ elim (known_signed field) [
        | inl s ↦ inl (neg_ℤ (pos (digits_value 10 s.0)), (s.0, s.2, inr (s.1, refl)))
        | inr signed ↦ inr (λ is. no_spelling field is.0 plain signed is.1)
      ]
    ]

-- the numbers of a row of number fields
pub spelled : (row : List (List ℕ)) → All IsNumber row → (ns : List ℤ) × AllZip Spells row ns
spelled [] all = ([], tt)
spelled (x ∷ row) all =
    let first = All-head IsNumber x row all in
    let rest = spelled row (All-tail IsNumber x row all) in
    (first.0 ∷ rest.0, (first.1, rest.1))

pub three_numbers : (row : List (List ℕ)) (ns : List ℤ) → length ns ≡ 3 → AllZip Spells row ns
    → (a b c : ℤ) × AllZip Spells row (a ∷ b ∷ c ∷ [])
three_numbers row [] l spells = absurd (omega arith)
three_numbers row (p ∷ []) l spells = absurd (omega arith)
three_numbers row (p ∷ q ∷ []) l spells = absurd (omega arith)
three_numbers row (p ∷ q ∷ r ∷ []) l spells = (p, q, r, spells)
three_numbers row (p ∷ q ∷ r ∷ s ∷ ns) l spells = absurd (omega arith)

pub four_numbers : (row : List (List ℕ)) (ns : List ℤ) → length ns ≡ 4 → AllZip Spells row ns
    → (a b c d : ℤ) × AllZip Spells row (a ∷ b ∷ c ∷ d ∷ [])
four_numbers row [] l spells = absurd (omega arith)
four_numbers row (p ∷ []) l spells = absurd (omega arith)
four_numbers row (p ∷ q ∷ []) l spells = absurd (omega arith)
four_numbers row (p ∷ q ∷ r ∷ []) l spells = absurd (omega arith)
four_numbers row (p ∷ q ∷ r ∷ s ∷ []) l spells = (p, q, r, s, spells)
four_numbers row (p ∷ q ∷ r ∷ s ∷ t ∷ ns) l spells = absurd (omega arith)
