-- Lists whose elements have numbers, and their parts of one number each.
use Rattle.std.proofs.Common.{◌≡◌, ℕ, ◌+◌, ◌<◌, ◌≤◌, ◌==◌, Bool, cond, List, [], ◌∷◌, length}
use Rattle.std.proofs.Common.{filter, inl, inr, refl, sym, ap, ◌∙◌, subst, arith}
use Rattle.std.proofs.lemmas.Bool.{cases_Bool, eq-eqb, eqb-true}
use Rattle.std.specs.List.{AllByRecursion}
use Rattle.plum_core.proofs.Counted.{is_it, having, having-cons}
use Rattle.plum_text.proofs.OneArea.{cons_same}

module _ {X : Type 0} (number : X → ℕ) where
  -- the elements of this number
  abbrev pub numbered : ℕ → List X → List X
  numbered k xs = filter (λ x. number x == k) xs

  -- Two lists have the same elements of each number, in order.
  abbrev pub SameByNumber : List X → List X → Type 0
  SameByNumber xs ys = (k : ℕ) → numbered k xs ≡ numbered k ys

  -- with a first element of this number
  with_first : (k : ℕ) (x : X) (xs : List X) → number x ≡ k
      → numbered k (x ∷ xs) ≡ x ∷ numbered k xs
  with_first k x xs e =
      ap (λ b. cond b (x ∷ numbered k xs) (numbered k xs)) (eq-eqb (number x) k e)

  -- The first elements are the same, where their numbers are.
  pub first_same : (x y : X) (xs ys : List X) → number y ≡ number x
      → SameByNumber (x ∷ xs) (y ∷ ys) → x ≡ y
  first_same x y xs ys e same =
      let k = number x in
      let joined : x ∷ numbered k xs ≡ y ∷ numbered k ys =
      sym (with_first k x xs refl) ∙ same k ∙ with_first k y ys e in
      (cons_same x y (numbered k xs) (numbered k ys) joined).0

  -- So are the others.
  pub rest_same : (x : X) (xs ys : List X) → SameByNumber (x ∷ xs) (x ∷ ys) → SameByNumber xs ys
  rest_same x xs ys same = λ k.
      let whole : Bool → List X → List X = λ b zs. cond b (x ∷ zs) zs in
      let a = numbered k xs in
      let b = numbered k ys in
      elim (cases_Bool (number x == k)) [
        | inl is ↦
            (cons_same x x a b (sym (ap (λ t. whole t a) is) ∙ same k ∙ ap (λ t. whole t b) is)).1
        | inr none ↦ sym (ap (λ t. whole t a) none) ∙ same k ∙ ap (λ t. whole t b) none
      ]

  -- What holds of the elements of one number holds of them behind a first element.
  behind_first : (P : X → Type 0) (x : X) (xs : List X) (k : ℕ)
      → AllByRecursion P (numbered k (x ∷ xs)) → AllByRecursion P (numbered k xs)
  behind_first P x xs k are =
      let whole : Bool → List X = λ b. cond b (x ∷ numbered k xs) (numbered k xs) in
      elim (cases_Bool (number x == k)) [
        | inl is ↦ (subst (AllByRecursion P) (ap whole is) are).1
        | inr none ↦ subst (AllByRecursion P) (ap whole none) are
      ]

  -- What holds of the elements of each number holds of each element.
  pub each_by_number : (P : X → Type 0) (xs : List X)
      → ((k : ℕ) → AllByRecursion P (numbered k xs)) → AllByRecursion P xs
  each_by_number P [] are = tt
  each_by_number P (x ∷ xs) are =
      let k = number x in
      let first = subst (AllByRecursion P) (with_first k x xs refl) (are k) in
      (first.0, each_by_number P xs (λ j. behind_first P x xs j (are j)))

  -- how many elements have number k
  abbrev count : ℕ → List X → ℕ
  count k xs = having number k xs

  -- the list without its first element of this number
  abbrev without : ℕ → List X → List X
  without k [] = []
  without k (y ∷ ys) = cond (number y == k) ys (y ∷ without k ys)

  -- where there is one, the list is longer
  without_shorter : (k : ℕ) (ys : List X) → 0 < count k ys → length (without k ys) < length ys
  without_shorter k [] some = absurd (omega arith)
  without_shorter k (y ∷ ys) some =
      let rest : Bool → List X = λ b. cond b ys (y ∷ without k ys) in
      let c = having-cons number k y ys in
      elim (cases_Bool (number y == k)) [
        | inl is ↦ subst (λ b. length (rest b) < length (y ∷ ys)) (sym is) (omega arith)
        | inr none ↦
            let no : is_it (number y) k ≡ 0 = ap (λ b. cond b 1 0) none in
            let shorter = without_shorter k ys (omega arith) in
            subst (λ b. length (rest b) < length (y ∷ ys)) (sym none) (omega arith)
      ]

  -- and has at most that element more
  without_less : (k j : ℕ) (ys : List X) → count j ys ≤ count j (without k ys) + is_it k j
  without_less k j [] = omega arith
  without_less k j (y ∷ ys) =
      let rest : Bool → List X = λ b. cond b ys (y ∷ without k ys) in
      let c = having-cons number j y ys in
      let P : Bool → Type 0 = λ b. count j (y ∷ ys) ≤ count j (rest b) + is_it k j in
      elim (cases_Bool (number y == k)) [
        | inl is ↦
            let same : is_it (number y) j ≡ is_it k j =
            ap (λ m. is_it m j) (eqb-true (number y) k is) in
            subst P (sym is) (omega arith)
        | inr none ↦
            let more = without_less k j ys in
            let d = having-cons number j y (without k ys) in
            subst P (sym none) (omega arith)
      ]

  -- What is no more of each number stays so where each list loses an element of one number.
  without_first : (x : X) (xs ys : List X) (j : ℕ) → count j (x ∷ xs) ≤ count j ys
      → count j xs ≤ count j (without (number x) ys)
  without_first x xs ys j fewer =
      omega (arith, having-cons number j x xs, without_less (number x) j ys)

  -- A list with no more elements of each number is no longer.
  pub no_longer : (xs ys : List X) → ((k : ℕ) → count k xs ≤ count k ys) → length xs ≤ length ys
  no_longer [] ys fewer = omega arith
  no_longer (x ∷ xs) ys fewer =
      let k = number x in
      let own : is_it k k ≡ 1 = ap (λ b. cond b 1 0) (eq-eqb k k refl) in
      let first = having-cons number k x xs in
      let enough = fewer k in
      let shorter = without_shorter k ys (omega arith) in
      let more = no_longer xs (without k ys) (λ j. without_first x xs ys j (fewer j)) in
      omega arith
