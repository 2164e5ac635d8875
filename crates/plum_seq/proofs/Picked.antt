-- What a list gives at the positions that are picked.
use Rattle.std.proofs.Common.{add-one, ◌≡◌, ℕ, ◌+◌, Bool, true, false, List, [], ◌∷◌, ◌++◌, inl}
use Rattle.std.proofs.Common.{inr, refl, sym, ◌∙◌, ap, append-nil, append_assoc}
use Rattle.std.proofs.lemmas.Bool.{cases_Bool}
use Rattle.std.specs.Prelude.{if◌then◌else◌, filter, map, take}
use Rattle.std.specs.List.{enumerate_from}

-- a test within an append
if-append : {X : Type 0} (b : Bool) (x : X) (xs ys : List X)
    → (if b then x ∷ (xs ++ ys) else xs ++ ys) ≡ (if b then x ∷ xs else xs) ++ ys
if-append true x xs ys = refl
if-append false x xs ys = refl

module _ {X Y : Type 0} where
  -- what is given at each position that is picked, of a list numbered from n
  unfoldable pub picked_from : (ℕ → X → Bool) → (ℕ → X → Y) → ℕ → List X → List Y
  picked_from picks gives n xs =
      map (λ at. gives at.0 at.1) (filter (λ at. picks at.0 at.1) (enumerate_from n xs))

  -- the first position, and those after it
  picked_from-cons : (picks : ℕ → X → Bool) (gives : ℕ → X → Y) (n : ℕ) (x : X) (xs : List X)
      → picked_from picks gives n (x ∷ xs)
      ≡ (let rest = picked_from picks gives (n + 1) xs in
      if picks n x then gives n x ∷ rest else rest)
  unfolding picked_from
  picked_from-cons picks gives n x xs =
      elim (cases_Bool (picks n x)) [ inl is ↦ rw is | inr is ↦ rw is ]

  -- Numbered from one further on, a list gives the same where the tests and what is given are one
  -- further on too.
  picked_from-shift : (picks further_picks : ℕ → X → Bool) (gives further_gives : ℕ → X → Y)
      → ((i : ℕ) (x : X) → further_picks (i + 1) x ≡ picks i x)
      → ((i : ℕ) (x : X) → further_gives (i + 1) x ≡ gives i x)
      → (n : ℕ) (xs : List X)
      → picked_from further_picks further_gives (n + 1) xs ≡ picked_from picks gives n xs
  unfolding picked_from
  picked_from-shift picks further_picks gives further_gives same_picks same_gives n [] = refl
  picked_from-shift picks further_picks gives further_gives same_picks same_gives n (x ∷ xs) =
      let rest =
      picked_from-shift picks further_picks gives further_gives same_picks same_gives (n + 1) xs in
      picked_from-cons further_picks further_gives (n + 1) x xs
      ∙ (rw (same_picks n x, same_gives n x, rest))
      ∙ sym (picked_from-cons picks gives n x xs)

-- the elements before a position, one position further on
before_further : {X : Type 0} (earlier : List X) (x : X) (xs : List X) (i : ℕ)
    → earlier ++ take (i + 1) (x ∷ xs) ≡ (earlier ++ x ∷ []) ++ take i xs
before_further earlier x xs i = rw add-one (sym (append_assoc earlier (x ∷ []) (take i xs)))

module _ {X Y : Type 0} (picks : List X → X → Bool) (gives : List X → X → Y) where
  -- what each element gives that is picked, by those before it, where these come after earlier ones
  unfoldable pub picked : List X → List X → List Y
  picked earlier xs =
      picked_from
      (λ i x. picks (earlier ++ take i xs) x)
      (λ i x. gives (earlier ++ take i xs) x)
      0
      xs

  -- no element
  pub picked-nil : (earlier : List X) → picked earlier [] ≡ []
  unfolding picked picked_from
  picked-nil earlier = refl

  -- the first element, and those after it
  picked-cons : (earlier : List X) (x : X) (xs : List X) → picked earlier (x ∷ xs)
      ≡ (let rest = picked (earlier ++ x ∷ []) xs in
      if picks earlier x then gives earlier x ∷ rest else rest)
  unfolding picked
  picked-cons earlier x xs =
      let picks_at : ℕ → X → Bool = λ i y. picks (earlier ++ take i (x ∷ xs)) y in
      let gives_at : ℕ → X → Y = λ i y. gives (earlier ++ take i (x ∷ xs)) y in
      let rest : picked_from picks_at gives_at (0 + 1) xs ≡ picked (earlier ++ x ∷ []) xs =
      picked_from-shift _ _ _ _ (λ i y. ap (λ e. picks e y) (before_further earlier x xs i))
      (λ i y. ap (λ e. gives e y) (before_further earlier x xs i)) 0 xs in
      picked_from-cons picks_at gives_at 0 x xs ∙ rw (rest, append-nil earlier)

  -- elements in two parts
  pub picked-append : (earlier xs ys : List X)
      → picked earlier (xs ++ ys) ≡ picked earlier xs ++ picked (earlier ++ xs) ys
  picked-append earlier [] ys =
      ap (λ e. picked e ys) (sym (append-nil earlier))
      ∙ ap (λ first. first ++ picked (earlier ++ []) ys) (sym (picked-nil earlier))
  picked-append earlier (x ∷ xs) ys =
      let further = earlier ++ x ∷ [] in
      let second = picked (earlier ++ x ∷ xs) ys in
      let rest : picked further (xs ++ ys) ≡ picked further xs ++ second =
      picked-append further xs ys
      ∙ ap (λ e. picked further xs ++ picked e ys) (append_assoc earlier (x ∷ []) xs) in
      picked-cons earlier x (xs ++ ys)
      ∙ rw rest (if-append (picks earlier x) (gives earlier x) (picked further xs) second)
      ∙ ap (λ first. first ++ second) (sym (picked-cons earlier x xs))

  module _ (xs : List X) (x : X) where
    -- one element more, by whether it is picked
    picked-one : picked [] (xs ++ x ∷ [])
        ≡ picked [] xs ++ (if picks xs x then gives xs x ∷ [] else [])
    picked-one =
        picked-append [] xs (x ∷ [])
        ∙ ap (λ more. picked [] xs ++ more) (picked-cons xs x [] ∙ rw (picked-nil (xs ++ x ∷ [])))

    -- one element more that is picked
    pub picked-push : picks xs x ≡ true → picked [] (xs ++ x ∷ []) ≡ picked [] xs ++ gives xs x ∷ []
    picked-push is = picked-one ∙ rw is

    -- one element more that is not
    pub picked-push_other : picks xs x ≡ false → picked [] (xs ++ x ∷ []) ≡ picked [] xs
    picked-push_other is = picked-one ∙ rw is (append-nil (picked [] xs))
