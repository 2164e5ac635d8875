-- A list with one more element at its end.
use Rattle.std.proofs.Common.{◌≡◌, ℕ, zero, suc, ◌<◌, ◌⊎◌, inl, inr, Bool, cond, List, [], ◌∷◌}
use Rattle.std.proofs.Common.{◌++◌, length, filter, Option, Some, refl, sym, ◌∙◌, ap, subst}
use Rattle.std.proofs.Common.{arith, append-nil, append_assoc}
use Rattle.std.proofs.lemmas.List.Elements.{filter-append}
use Rattle.std.specs.List.{last_or}
use Rattle.std.specs.Prelude.{slice_get, zip}

module _ {X : Type 0} where
  -- what holds of no element, and of one more at the end, holds of each list
  pub by_push : (P : List X → Type 0) → P [] → ((xs : List X) (x : X) → P xs → P (xs ++ x ∷ []))
      → (xs : List X) → P xs
  by_push P none more xs = after [] xs none
    where
      after : (xs ys : List X) → P xs → P (xs ++ ys)
      after xs [] here = subst P (sym (append-nil xs)) here
      after xs (y ∷ ys) here =
          subst P (append_assoc xs (y ∷ []) ys) (after (xs ++ y ∷ []) ys (more xs y here))

  -- the last one, whatever there is where the list is empty
  pub last_or-push : (other : Option X) (xs : List X) (x : X)
      → last_or other (xs ++ x ∷ []) ≡ Some x
  last_or-push other [] x = refl
  last_or-push other (y ∷ ys) x = last_or-push (Some y) ys x

  -- what passes a test
  pub filter_more : (p : X → Bool) (xs : List X) (x : X) (b : Bool) → p x ≡ b
      → filter p (xs ++ x ∷ []) ≡ filter p xs ++ cond b (x ∷ []) []
  filter_more p xs x b is =
      filter-append p xs (x ∷ []) ∙ ap (λ b. filter p xs ++ cond b (x ∷ []) []) is

  -- an element before the one more
  pub slice_get-before : (xs : List X) (x : X) (n : ℕ) → n < length xs
      → slice_get (xs ++ x ∷ []) n ≡ slice_get xs n
  slice_get-before [] x n below = absurd (omega arith)
  slice_get-before (y ∷ ys) x zero below = refl
  slice_get-before (y ∷ ys) x (suc n) below = slice_get-before ys x n (omega arith)

  -- the one more
  pub slice_get-after : (xs : List X) (x : X) → slice_get (xs ++ x ∷ []) (length xs) ≡ Some x
  slice_get-after [] x = refl
  slice_get-after (y ∷ ys) x = slice_get-after ys x

  -- An element is one before, or the one more.
  pub slice_get-cases : (xs : List X) (x : X) (n : ℕ) (y : X) → slice_get (xs ++ x ∷ []) n ≡ Some y
      → ((n < length xs) × (slice_get xs n ≡ Some y)) ⊎ ((n ≡ length xs) × (x ≡ y))
  slice_get-cases [] x zero y is = inr (refl, cc)
  slice_get-cases [] x (suc n) y is = absurd (cc)
  slice_get-cases (z ∷ zs) x zero y is = inl (omega arith, is)
  slice_get-cases (z ∷ zs) x (suc n) y is = elim (slice_get-cases zs x n y is) [
    | inl (below, here) ↦ inl (omega arith, here)
    | inr (end, here) ↦ inr (omega arith, here)
  ]

-- two lists of one length beside each other
pub zip-push : {X Y : Type 0} (xs : List X) (ys : List Y) (x : X) (y : Y) → length ys ≡ length xs
    → zip (xs ++ x ∷ []) (ys ++ y ∷ []) ≡ zip xs ys ++ (x, y) ∷ []
zip-push [] [] x y long = refl
zip-push [] (b ∷ ys) x y long = absurd (omega arith)
zip-push (a ∷ xs) [] x y long = absurd (omega arith)
zip-push (a ∷ xs) (b ∷ ys) x y long =
    ap (λ l. (a, b) ∷ l) (zip-push xs ys x y (omega arith))
