-- One of many values, each with a number, changed.
use Rattle.std.proofs.Common.{ℕ, ◌≡◌, false, inl, inr, sym, subst, eqb-true}
use Rattle.std.proofs.lemmas.Bool.{cases_Bool}
use Rattle.std.specs.Prelude.{if◌then◌else◌, ◌==◌}
use Rattle.plum_core.specs.Machine.{changed}

-- What holds of the changed one and of each other holds of each.
pub at_each : {X : Type 0} (P : ℕ → X → Type 0) (n : ℕ) (x : X) (xs : ℕ → X) → P n x
    → ((m : ℕ) → (m == n) ≡ false → P m (xs m)) → (m : ℕ) → P m (changed n x xs m)
at_each {X} P n x xs here others m =
    elim (cases_Bool (m == n)) [
      | inl is ↦
          subst (λ b. P m (if b then x else xs m)) (sym is)
          (subst (λ k. P k x) (sym (eqb-true m n is)) here)
      | inr is ↦ subst (λ b. P m (if b then x else xs m)) (sym is) (others m is)
    ]
