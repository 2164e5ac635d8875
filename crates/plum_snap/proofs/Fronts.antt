-- Beginnings of one list.
use Rattle.std.proofs.Common.{◌≡◌, ◌≤◌, ◌⊎◌, List, [], ◌∷◌, ◌++◌, length, drop, refl, ap, sym}
use Rattle.std.proofs.Common.{◌∙◌, arith, length-append, inl, inr}
use Rattle.std.proofs.lemmas.Bool.{cases_lt}
use mathlib.Core.List.{IsPrefix}
use base.Growing.{prefix_refl}

-- Of two beginnings of one list the shorter begins the longer.
pub prefix_shorter : {A : Type 0} (xs ys zs : List A) → IsPrefix xs zs → IsPrefix ys zs
    → length xs ≤ length ys → IsPrefix xs ys
prefix_shorter [] ys zs p q le = (ys, refl)
prefix_shorter (x ∷ xs) [] zs p q le = absurd (omega arith)
prefix_shorter (x ∷ xs) (y ∷ ys) [] p q le = absurd (cc (p.1))
prefix_shorter (x ∷ xs) (y ∷ ys) (z ∷ zs) p q le =
    let heads : x ≡ y = cc (p.1, q.1) in
    let rest = prefix_shorter xs ys zs (p.0, cc (p.1)) (q.0, cc (q.1)) (omega arith) in
    (rest.0, cc (heads, rest.1))

-- Of two beginnings of one list one begins the other.
pub prefix_either : {A : Type 0} (xs ys zs : List A) → IsPrefix xs zs → IsPrefix ys zs
    → IsPrefix xs ys ⊎ IsPrefix ys xs
prefix_either xs ys zs p q = elim (cases_lt (length ys) (length xs)) [
  | inl less ↦ inr (prefix_shorter ys xs zs q p (omega arith))
  | inr more ↦ inl (prefix_shorter xs ys zs p q more)
]

-- A beginning that is as long as the whole is the whole.
pub prefix_whole : {A : Type 0} (xs ys : List A) → IsPrefix xs ys → length ys ≤ length xs → xs ≡ ys
prefix_whole [] [] p le = refl
prefix_whole [] (y ∷ ys) p le = absurd (omega arith)
prefix_whole (x ∷ xs) [] p le = absurd (cc (p.1))
prefix_whole (x ∷ xs) (y ∷ ys) p le =
    let rest = prefix_whole xs ys (p.0, cc (p.1)) (omega arith) in cc (p.1, rest)

pub prefix_length : {A : Type 0} (xs ys : List A) → IsPrefix xs ys → length xs ≤ length ys
prefix_length xs ys p = omega (arith, sym (ap length p.1) ∙ length-append xs p.0)

-- Of two lists, one of which begins the other, the one that is no longer begins the other.
pub prefix_of_longer : {A : Type 0} (xs ys : List A) → IsPrefix xs ys ⊎ IsPrefix ys xs
    → length xs ≤ length ys → IsPrefix xs ys
prefix_of_longer xs ys (inl p) le = p
prefix_of_longer xs ys (inr p) le =
    prefix_shorter xs ys xs (prefix_refl xs) p le

-- the rest of a list after a beginning of it
pub prefix_drop : {A : Type 0} (xs ys : List A) → IsPrefix xs ys → ys ≡ xs ++ drop (length xs) ys
prefix_drop [] ys p = refl
prefix_drop (x ∷ xs) [] p = absurd (cc (p.1))
prefix_drop (x ∷ xs) (y ∷ ys) p = let rest = prefix_drop xs ys (p.0, cc (p.1)) in cc (p.1, rest)
