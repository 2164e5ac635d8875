-- The fields of a row, by position.
use Rattle.std.proofs.Common.{◌≡◌, ◌≢◌, ℕ, ◌<◌, List, [], ◌∷◌, length, Some, None, arith}
use Rattle.csv.specs.Records.{field_at}
use Rattle.csv.proofs.RecordFacts.{field-there}

-- a row that lacks a field is not of that length
pub absent : (fs : List (List ℕ)) (k n : ℕ) → field_at fs k ≡ None → k < n → length fs ≢ n
absent fs k n none below is = field-there fs k (omega arith) none

pub four : (fs : List (List ℕ)) (a b c d : List ℕ) → length fs ≡ 4 → field_at fs 0 ≡ Some a
    → field_at fs 1 ≡ Some b → field_at fs 2 ≡ Some c → field_at fs 3 ≡ Some d
    → fs ≡ a ∷ b ∷ c ∷ d ∷ []
unfolding field_at
four [] a b c d l _ _ _ _ = absurd (omega arith)
four (p ∷ []) a b c d l _ _ _ _ = absurd (omega arith)
four (p ∷ q ∷ []) a b c d l _ _ _ _ = absurd (omega arith)
four (p ∷ q ∷ r ∷ []) a b c d l _ _ _ _ = absurd (omega arith)
four (p ∷ q ∷ r ∷ s ∷ []) a b c d l ea eb ec ed = cc
four (p ∷ q ∷ r ∷ s ∷ t ∷ ts) a b c d l _ _ _ _ = absurd (omega arith)

pub five : (fs : List (List ℕ)) (a b c d e : List ℕ) → length fs ≡ 5 → field_at fs 0 ≡ Some a
    → field_at fs 1 ≡ Some b → field_at fs 2 ≡ Some c → field_at fs 3 ≡ Some d
    → field_at fs 4 ≡ Some e → fs ≡ a ∷ b ∷ c ∷ d ∷ e ∷ []
unfolding field_at
five [] a b c d e l _ _ _ _ _ = absurd (omega arith)
five (f ∷ fs) a b c d e l ea eb ec ed ee =
    let rest : fs ≡ b ∷ c ∷ d ∷ e ∷ [] = four fs b c d e (omega arith) eb ec ed ee in cc
