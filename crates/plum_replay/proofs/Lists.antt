-- Lists of which something holds element by element.
use Rattle.std.proofs.Common.{◌≡◌, ℕ, zero, suc, Bool, List, [], ◌∷◌, ◌++◌, length, map, filter}
use Rattle.std.proofs.Common.{◌<◌}
use Rattle.std.proofs.Common.{slice_get, Some, sum_by, refl, subst, arith}
use Rattle.std.proofs.lemmas.List.Elements.{recursion_from_All, All-from_recursion, All-filter}
use Rattle.std.proofs.lemmas.List.Sums.{sum_by-cons}
use Rattle.std.specs.List.{AllByRecursion, AllZip, flat_map}

module _ {X : Type 0} (P : X → Type 0) where
  -- What holds of the whole holds of both parts.
  pub All-front : (xs ys : List X) → AllByRecursion P (xs ++ ys) → AllByRecursion P xs
  All-front [] ys are = tt
  All-front (x ∷ xs) ys are = (are.0, All-front xs ys are.1)

  pub All-back : (xs ys : List X) → AllByRecursion P (xs ++ ys) → AllByRecursion P ys
  All-back [] ys are = are
  All-back (x ∷ xs) ys are = All-back xs ys are.1

  -- What holds of each element of all pieces holds in each piece.
  pub All-pieces : (pieces : List (List X)) → AllByRecursion P (flat_map (λ piece. piece) pieces)
      → AllByRecursion (AllByRecursion P) pieces
  All-pieces [] are = tt
  All-pieces (piece ∷ pieces) are =
      let more = flat_map (λ piece. piece) pieces in
      (All-front piece more are, All-pieces pieces (All-back piece more are))

  -- What passes a test are elements.
  pub All-passing : (test : X → Bool) (xs : List X) → AllByRecursion P xs
      → AllByRecursion P (filter test xs)
  All-passing test xs are =
      recursion_from_All P (filter test xs)
      (All-filter test P xs (All-from_recursion P xs are))

  -- What holds of what f makes of each element holds of the list that f makes.
  pub All-made : {Y : Type 0} (f : Y → X) (ys : List Y) → AllByRecursion (λ y. P (f y)) ys
      → AllByRecursion P (map f ys)
  All-made f [] are = tt
  All-made f (y ∷ ys) are = (are.0, All-made f ys are.1)

  pub All-unmade : {Y : Type 0} (f : Y → X) (ys : List Y) → AllByRecursion P (map f ys)
      → AllByRecursion (λ y. P (f y)) ys
  All-unmade f [] are = tt
  All-unmade f (y ∷ ys) are = (are.0, All-unmade f ys are.1)

  -- and of the element at any position
  pub All-at : (xs : List X) (i : ℕ) (x : X) → AllByRecursion P xs → slice_get xs i ≡ Some x → P x
  All-at [] i x are at = cc
  All-at (y ∷ xs) zero x are at = let same : y ≡ x = cc in subst P same are.0
  All-at (y ∷ xs) (suc i) x are at = All-at xs i x are.1 at

  -- What holds at each position holds of each element.
  pub All-by_index : (xs : List X) → ((i : ℕ) (x : X) → slice_get xs i ≡ Some x → P x)
      → AllByRecursion P xs
  All-by_index [] at = tt
  All-by_index (x ∷ xs) at = (at 0 x refl, All-by_index xs (λ i y e. at (suc i) y e))

-- What holds of two lists of one length at each position holds place by place.
pub AllZip-by_index : {X Y : Type 0} (R : X → Y → Type 0) (xs : List X) (ys : List Y)
    → length ys ≡ length xs
    → ((i : ℕ) (x : X) (y : Y) → slice_get xs i ≡ Some x → slice_get ys i ≡ Some y → R x y)
    → AllZip R xs ys
AllZip-by_index R [] [] long at = tt
AllZip-by_index R [] (y ∷ ys) long at = absurd (omega arith)
AllZip-by_index R (x ∷ xs) [] long at = absurd (omega arith)
AllZip-by_index R (x ∷ xs) (y ∷ ys) long at = (
  at 0 x y refl refl,
  AllZip-by_index R xs ys (omega arith) (λ i v w e f. at (suc i) v w e f),
)

-- The sum over what f makes.
pub sum_by-map : {X Y : Type 0} (f : X → Y) (g : Y → ℕ) (xs : List X)
    → sum_by g (map f xs) ≡ sum_by (λ x. g (f x)) xs
sum_by-map f g [] = refl
sum_by-map f g (x ∷ xs) = omega (
  arith,
  sum_by-map f g xs,
  sum_by-cons g (f x) (map f xs),
  sum_by-cons (λ x. g (f x)) x xs,
)

-- An element, where there is one.
pub some_of : {X : Type 0} (xs : List X) (i : ℕ) → i < length xs → X
some_of [] i less = absurd (omega arith)
some_of (x ∷ xs) i less = x
