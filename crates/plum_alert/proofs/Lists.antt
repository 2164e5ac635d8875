-- Elements of lists.
use Rattle.std.proofs.Common.{◌≡◌, ℕ, zero, suc, ◌<◌, List, [], ◌∷◌, ◌++◌, ◌⊎◌, inl, inr}
use Rattle.std.proofs.Common.{length, take, Some, refl, ap, arith}
use Rattle.std.specs.Prelude.{slice_get}
use Rattle.std.specs.List.{Contains}

module _ {X : Type 0} where
  -- the first element
  pub Contains-here : (x : X) (xs : List X) → Contains (x ∷ xs) x
  Contains-here x xs = (0, omega arith, refl)

  -- a later one
  pub Contains-later : (x : X) (xs : List X) (y : X) → Contains xs y → Contains (x ∷ xs) y
  Contains-later x xs y (k, below, is) = (suc k, omega arith, is)

  -- An element is the first or a later one.
  pub Contains-cases : (x : X) (xs : List X) (y : X) → Contains (x ∷ xs) y → (x ≡ y) ⊎ Contains xs y
  Contains-cases x xs y (zero, below, is) = inl is
  Contains-cases x xs y (suc k, below, is) = inr (k, omega arith, is)

  -- Below the length there is an element.
  pub slice_get-within : (xs : List X) (n : ℕ) → n < length xs
      → (x : X) × (slice_get xs n ≡ Some x)
  slice_get-within [] n below = absurd (omega arith)
  slice_get-within (x ∷ xs) zero below = (x, refl)
  slice_get-within (x ∷ xs) (suc n) below = slice_get-within xs n (omega arith)

  -- the front with the element after it
  pub take-next : (xs : List X) (n : ℕ) (x : X) → slice_get xs n ≡ Some x
      → take (suc n) xs ≡ take n xs ++ x ∷ []
  take-next [] n x is = absurd (cc)
  take-next (y ∷ ys) zero x is = let same : y ≡ x = cc in ap (λ z. z ∷ []) same
  take-next (y ∷ ys) (suc n) x is = ap (λ zs. y ∷ zs) (take-next ys n x is)
