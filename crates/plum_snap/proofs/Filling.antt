-- Answers that are put one by one into the room that was taken for them.
use Rattle.std.proofs.Common.{◌≡◌, ℕ, zero, suc, ◌+◌, ◌<◌, List, [], ◌∷◌, length, take, set, Some}
use Rattle.std.proofs.Common.{get_or, subst, arith}
use Rattle.std.specs.List.{AllZip}
use Rattle.std.proofs.lemmas.Option.{slice_get-get_or}
use Rattle.std.specs.Prelude.{slice_get}
use Rattle.plum_base.specs.declared.numbers.TargetNo.{TargetNo}
use Rattle.plum_base.specs.declared.sites.TargetSite.{TargetSite}
use Rattle.plum_base.proofs.ByNumber.{numbers_at}
use Rattle.plum_base.specs.Sites.{AreNumbersOf}

-- one answer more
pub one_answer_more : {A B : Type 0} (P : A → B → Type 0) (xs : List A) (ys : List B) (i : ℕ)
    (x : A) (y : B) → AllZip P (take i xs) (take i ys) → slice_get xs i ≡ Some x → i < length ys
    → P x y → AllZip P (take (i + 1) xs) (take (i + 1) (set ys i y))
one_answer_more P [] ys i x y so_far here below holds = absurd cc
one_answer_more P (a ∷ xs) [] i x y so_far here below holds = absurd (omega arith)
one_answer_more P (a ∷ xs) (b ∷ ys) zero x y so_far here below holds =
    let same : x ≡ a = cc here in (subst (λ z. P z y) same holds, tt)
one_answer_more P (a ∷ xs) (b ∷ ys) (suc i) x y so_far here below holds =
    let next : suc i + 1 ≡ suc (i + 1) = omega arith in
    rw next (so_far.0, one_answer_more P xs ys i x y so_far.1 here (omega arith) holds)

-- a target by its number
pub target_at : (all targets : List TargetSite) (numbers : List TargetNo) (i : ℕ) (d : TargetNo)
    → AreNumbersOf all numbers targets → i < length numbers
    → (t : TargetSite) × (slice_get targets i ≡ Some t)
    × (slice_get all (get_or numbers i d).0 ≡ Some t)
target_at all targets numbers i d are below =
    numbers_at all numbers targets i (get_or numbers i d) are (slice_get-get_or numbers i d below)
