-- The views of the passes, one of which changes in a step.
use Rattle.std.proofs.Common.{◌≡◌, ◌≢◌, ◌⊎◌, ℕ, zero, suc, true, false, true≢false, List, [], ◌∷◌}
use Rattle.std.proofs.Common.{◌++◌, length, set, Option, Some, None, sym, refl, ap, ◌∙◌, subst}
use Rattle.std.proofs.Common.{inl, inr}
use Rattle.std.proofs.Common.{⊎_elim}
use Rattle.std.specs.Prelude.{IsSome}
use mathlib.Core.Option.{some, some-injective, some-ne-none}
use lib.ListN.{get_elem?}
use Rattle.crossbeam_queue.proofs.Lists.{at_set}
use Rattle.plum_base.specs.declared.entry.Entry.{Entry}
use Rattle.plum_lanes.specs.declared.rule.Basis.{Basis}
use Rattle.plum_lanes.specs.declared.rule.View.{View}
use Rattle.plum_lanes.specs.Rule.{settled_at, settle, blank, spent, FitsGatherer, FitsSender}
use Rattle.plum_lanes.specs.Rule.{IsRuled}
use Rattle.plum_lanes.specs.Rule.{Holds}

-- ---- lists

pub only : {A : Type 0} (a v : A) (n : ℕ) → get_elem? (a ∷ []) n ≡ some v → a ≡ v
only a v zero e = some-injective a v e
only a v (suc n) e = absurd (some-ne-none v (sym e))

pub at_end : {A : Type 0} (l : List A) (a b : A) (j : ℕ) → get_elem? (l ++ a ∷ []) j ≡ some b
    → (get_elem? l j ≡ some b) ⊎ ((j ≡ length l) × (a ≡ b))
at_end [] a b zero e = inr (refl, some-injective a b e)
at_end [] a b (suc j) e = absurd (some-ne-none b (sym e))
at_end (x ∷ xs) a b zero e = inl e
at_end (x ∷ xs) a b (suc j) e =
    ⊎_elim (λ h. inl h) (λ t. inr (ap suc t.0, t.1)) (at_end xs a b j e)

-- ---- what is settled

pub settled-same : (xs : List (List Entry)) (n : ℕ) (s : List Entry)
    → settled_at (settle xs n s) n ≡ s
settled-same [] zero s = refl
settled-same [] (suc n) s = settled-same [] n s
settled-same (x ∷ xs) zero s = refl
settled-same (x ∷ xs) (suc n) s = settled-same xs n s

pub settled-other : (xs : List (List Entry)) (n m : ℕ) (s : List Entry) → m ≢ n
    → settled_at (settle xs n s) m ≡ settled_at xs m
settled-other [] zero zero s apart = absurd (apart refl)
settled-other [] zero (suc m) s apart = refl
settled-other [] (suc n) zero s apart = refl
settled-other [] (suc n) (suc m) s apart = settled-other [] n m s (λ e. apart (ap suc e))
settled-other (x ∷ xs) zero zero s apart = absurd (apart refl)
settled-other (x ∷ xs) zero (suc m) s apart = refl
settled-other (x ∷ xs) (suc n) zero s apart = refl
settled-other (x ∷ xs) (suc n) (suc m) s apart = settled-other xs n m s (λ e. apart (ap suc e))

-- ---- what fits

-- the pass of this number fits the rule: as the gatherer, and as a lane
abbrev pub Fits : Basis → ℕ → ℕ → List Entry → List (List Entry) → (ℕ → ℕ) → List Entry → ℕ → View
    → Type 0
Fits basis gatherer_pass out gathered settled lane_pass all pass v =
    FitsGatherer basis gatherer_pass gathered out settled pass v
    × FitsSender basis out lane_pass all pass v

pub off : false ≡ true → ⊥
off e = true≢false (sym e)

-- A pass that knows nothing fits.
pub spent-fits : (basis : Basis) (gatherer_pass out : ℕ) (gathered : List Entry)
    (settled : List (List Entry)) (lane_pass : ℕ → ℕ) (all : List Entry) (pass : ℕ)
    → Fits basis gatherer_pass out gathered settled lane_pass all pass spent
spent-fits basis gatherer_pass out gathered settled lane_pass all pass =
    ((λ may. absurd (off may)), (λ may. absurd (off may)))

-- What holds of each pass, after one of them changed.
pub all_set : (F : ℕ → View → Type 0) (views : List View) (n : ℕ) (w : View) → F n w
    → ((j : ℕ) (u : View) → j ≢ n → get_elem? views j ≡ some u → F j u)
    → (j : ℕ) (u : View) → get_elem? (set views n w) j ≡ some u → F j u
all_set F views n w mine others j u e =
    ⊎_elim (λ (x : (j ≡ n) × (w ≡ u)).
    subst (λ (y : ℕ × View). F y.0 y.1) (λ i. (sym x.0 i, x.1 i)) mine)
    (λ (x : (j ≢ n) × (get_elem? views j ≡ some u)). others j u x.0 x.1) (at_set views n j w u e)

-- ---- after the opening

-- the basis that a pass knows
pub known_basis : (o : Option Basis) → IsSome o → (k : Basis) × (o ≡ Some k)
known_basis None is = absurd (true≢false (sym is))
known_basis (Some k) is = (k, refl)

pub Some-injective : {k l : Basis} → Some k ≡ Some l → k ≡ l
Some-injective is = cc

-- the view of a pass, where there is the first one alone
first_view : (views : List View) (n : ℕ) (v : View) → views ≡ blank ∷ []
    → get_elem? views n ≡ some v → blank ≡ v
first_view views n v is at = only blank v n (ap (λ l. get_elem? l n) (sym is) ∙ at)

-- Where a pass knows the basis, the queue is ruled;
pub ruled_of : (queue : List Entry) (views : List View) (n : ℕ) (k : Basis) (v : View)
    → v.basis ≡ Some k → get_elem? views n ≡ some v → Holds queue views → IsRuled queue views
ruled_of queue views n k v known at h = elim h [
  | inl fresh ↦
      let same = first_view views n v fresh.1 at in
      let bad : None ≡ Some k = ap (λ (u : View). u.basis) same ∙ known in cc
  | inr r ↦ r
]

-- and where one sends.
pub ruled_for : (queue : List Entry) (views : List View) (n : ℕ) (v : View) → v.sends ≡ true
    → get_elem? views n ≡ some v → Holds queue views → IsRuled queue views
ruled_for queue views n v may at h = elim h [
  | inl fresh ↦
      let same = first_view views n v fresh.1 at in
      absurd (off (ap (λ (u : View). u.sends) same ∙ may))
  | inr r ↦ r
]
