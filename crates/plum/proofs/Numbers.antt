-- What the tests of the grammar say of a word that is a number.
use Rattle.std.proofs.Common.{◌≡◌, ℕ, ◌+◌, ◌<◌, ◌&&◌, ◌==◌, false, true, Bool, List, [], ◌∷◌}
use Rattle.std.proofs.Common.{None, Some, length, refl, arith}
use Rattle.std.proofs.lemmas.Bool.Decides.{nat_tests}
use Rattle.std.specs.List.{list_all}
use Rattle.std.specs.Prelude.{nat_lt, if◌then◌else◌}
use Rattle.std.specs.Str.Parse.{digits_value}
use borrow.Author.Tests.{ltb-true}
use Rattle.plum.specs.Job.{is_digit, is_number, is_path, number_up_to}

pub two_true : (a b : Bool) → (a && b) ≡ true → (a ≡ true) × (b ≡ true)
two_true true true h = (refl, refl)
two_true true false h = cc
two_true false b h = cc

pub three_true : (a b c : Bool) → (a && b && c) ≡ true → (a ≡ true) × (b ≡ true) × (c ≡ true)
three_true true true true h = (refl, refl, refl)
three_true false b c h = cc
three_true true false c h = cc
three_true true true false h = cc

-- a number is a path too: it does not begin with `-`
pub number_is_plain : (word : List ℕ) → is_number word ≡ true → is_path word ≡ true
number_is_plain [] h = cc
number_is_plain (c ∷ cs) h =
    let digits = (three_true (nat_lt 0 (length (c ∷ cs))) (nat_lt (length (c ∷ cs)) 21)
    (list_all is_digit (c ∷ cs)) h).2 in
    let first = (two_true (is_digit c) (list_all is_digit cs) digits).0 in
    let low : 47 < c = ltb-true 47 c (two_true (nat_lt 47 c) (nat_lt c 58) first).0 in
    let apart : (c == 45) ≡ false = grind (arith, nat_tests) in
    rw apart refl

pub number_given : (most : ℕ) (word : List ℕ) (n : ℕ) → number_up_to most word ≡ Some n
    → is_number word ≡ true
number_given most word n h =
    go (is_number word) (nat_lt (digits_value 10 word) (most + 1)) h
  where
    go : (a b : Bool) → (if a && b then Some (digits_value 10 word) else None) ≡ Some n
        → a ≡ true
    go true b h = refl
    go false b h = cc
