-- Stages that are all in range give no fault.
use Rattle.std.proofs.Common.{ℕ, zero, suc, ◌≤◌, List, [], ◌∷◌, length, Result, Ok, Err, refl}
use Rattle.std.proofs.Common.{ap, arith}
use Rattle.std.proofs.lemmas.List.Elements.{All-head, All-tail}
use Rattle.std.specs.Prelude.{All, IsOk, IfErr, IsSomeAnd, slice_get}
use Rattle.plum_base.specs.declared.cascade.Stage.{Stage}
use Rattle.plum_base.specs.declared.cascade.CascadeFault.{CascadeFault}
use Rattle.plum_base.specs.declared.cascade.CascadeFault.TheVariants as faults
use Rattle.plum_base.specs.Cascade.{IsStage, IsFirstCascadeFault}

none_breaks : (stages : List Stage) (k : ℕ) → All IsStage stages
    → IsSomeAnd (slice_get stages k) (λ s. ¬ IsStage s) → ⊥
none_breaks [] k each breaks = breaks
none_breaks (s ∷ ss) zero each breaks = breaks (All-head IsStage s ss each)
none_breaks (s ∷ ss) (suc k) each breaks = none_breaks ss k (All-tail IsStage s ss each) breaks

pub is_cascade : {A : Type 0} (r : Result A CascadeFault) (stages : List Stage)
    → IfErr r (IsFirstCascadeFault stages) → 1 ≤ length stages → All IsStage stages → IsOk r
is_cascade (Ok cascade) stages fault some each = refl
is_cascade (Err faults.Empty) stages fault some each = absurd (omega (arith, ap length fault))
is_cascade (Err (faults.Stage k)) stages fault some each =
    absurd (none_breaks stages k each fault.0)
