-- Lists that are filtered, and what stands at a place.
use Rattle.std.proofs.Common.{◌≡◌, ℕ, zero, suc, Bool, true, false, cond, List, [], ◌∷◌, ◌++◌}
use Rattle.std.proofs.Common.{length, take, filter, Some, inl, inr, refl, sym, ◌∙◌, ap, subst}
use Rattle.std.specs.Prelude.{slice_get, ◌+◌}
use Rattle.std.specs.List.{AllZip}
use Rattle.std.proofs.lemmas.List.{length_push}
use Rattle.std.proofs.lemmas.Bool.{cases_Bool, false_from_ne_true, true≢false}

-- what passes both tests, where whatever passes the second passes the first
pub filter_within : {X : Type 0} (p q : X → Bool) → ((x : X) → q x ≡ true → p x ≡ true)
    → (xs : List X) → filter q (filter p xs) ≡ filter q xs
filter_within p q within [] = refl
filter_within {X} p q within (x ∷ xs) =
    let rest = filter_within p q within xs in
    let first : Bool → List X = λ b. cond b (x ∷ filter p xs) (filter p xs) in
    elim (cases_Bool (p x)) [
      | inl is ↦ ap (λ b. filter q (first b)) is ∙ ap (λ ys. cond (q x) (x ∷ ys) ys) rest
      | inr none ↦
          let out : q x ≡ false =
          false_from_ne_true (q x) (λ is. true≢false (sym (within x is) ∙ none)) in
          ap (λ b. filter q (first b)) none ∙ rest
          ∙ sym (ap (λ b. cond b (x ∷ filter q xs) (filter q xs)) out)
    ]

-- how long a list with one more at its end is
pub length_more : {X : Type 0} (xs : List X) (x : X) (n : ℕ) → length xs ≡ n
    → length (xs ++ x ∷ []) ≡ n + 1
length_more xs x n is = length_push xs x ∙ ap (λ n. n + 1) is

-- what stands at a place of a front stands there in the whole list
pub slice_get-take : {X : Type 0} (n : ℕ) (xs : List X) (i : ℕ) (y : X)
    → slice_get (take n xs) i ≡ Some y → slice_get xs i ≡ Some y
slice_get-take zero xs i y is = cc
slice_get-take (suc n) [] i y is = cc
slice_get-take (suc n) (x ∷ xs) zero y is = is
slice_get-take (suc n) (x ∷ xs) (suc i) y is = slice_get-take n xs i y is

-- what stands at the same place of another list, and how they are related
pub beside : {X Y : Type 0} (R : X → Y → Type 0) (xs : List X) (ys : List Y) (i : ℕ) (y : Y)
    → AllZip R xs ys → slice_get ys i ≡ Some y → (x : X) × (slice_get xs i ≡ Some x) × R x y
beside R xs [] i y zip is = cc
beside R [] (y' ∷ ys) i y zip is = absurd zip
beside R (x ∷ xs) (y' ∷ ys) zero y zip is =
    let same : y' ≡ y = cc in
    (x, refl, subst (R x) same zip.0)
beside R (x ∷ xs) (y' ∷ ys) (suc i) y zip is = beside R xs ys i y zip.1 is
