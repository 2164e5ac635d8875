-- Beginnings of one list.
use Rattle.std.proofs.Common.{◌≡◌, ◌⊎◌, List, [], ◌∷◌, ◌++◌, ap, sym, ◌∙◌, append-nil, inl, inr}
use mathlib.Core.List.{IsPrefix}
use base.Growing.{prefix_trans}

-- Each list begins with a list that equals it.
pub prefix_same : {A : Type 0} (xs ys : List A) → xs ≡ ys → IsPrefix xs ys
prefix_same xs ys same = ([], append-nil xs ∙ same)

-- Where one more is told, and added or not, the list is still a beginning of what was told.
pub prefix_added : {A : Type 0} (told told_then added : List A) (e : A) → told_then ≡ told ++ e ∷ []
    → (added ≡ told) ⊎ (added ≡ told ++ e ∷ []) → IsPrefix added told_then
prefix_added told told_then added e grew (inl same) =
    (e ∷ [], ap (λ es. es ++ e ∷ []) same ∙ sym grew)
prefix_added told told_then added e grew (inr more) = prefix_same added told_then (more ∙ sym grew)

-- A beginning of a list is one of it when that has one more at its end, or has not.
pub prefix_grown : {A : Type 0} (front all grown : List A) (e : A) → IsPrefix front all
    → (grown ≡ all) ⊎ (grown ≡ all ++ e ∷ []) → IsPrefix front grown
prefix_grown front all grown e p (inl same) = (p.0, p.1 ∙ sym same)
prefix_grown front all grown e p (inr more) =
    prefix_trans front all grown p (e ∷ [], sym more)
