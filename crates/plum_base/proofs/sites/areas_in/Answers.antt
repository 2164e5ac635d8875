use Rattle.std.proofs.Common.{◌≡◌, ℕ, List, take, Any, refl, sym, subst, ◌∙◌}
use Rattle.std.proofs.lemmas.Bool.{false≢true}
use Rattle.plum_base.specs.Sites.{areas_of}
use Rattle.plum_base.proofs.Areas.{areas_unchanged, areas_pushed}
use Rattle.plum_base.proofs.sites.areas_in.Goals as goal
use Rattle.plum_base.proofs.sites.areas_in.Goals.{then-not-is_among+in_ok-push, else-not-is_among}

pub loop-target-preserved : goal.loop-target-preserved
loop-target-preserved c =
    let ts = c.args.targets.now in
    let before : c.as_slice.result.now
    ≡ areas_of (take c.loop-target.target-index ts) = c.as_slice.ensures.value
    ∙ c.loop-target.invariant in
    let P : List (List ℕ) → Type 0 = λ xs. Any (λ a. a ≡ c.target-item.result.area) xs in
    elim c.if-not-is_among.branch [
      | then-not-is_among+in_ok-push w ↦
          let more =
          areas_pushed ts c.loop-target.target-index _ c.loop-target-test.true c.target-item.is
          (λ a. false≢true (w.if-not-is_among.ensures.1 (subst P (sym before) a))) in
          cc (
            more,
            w.areas-is,
            w.in_ok-push.ensures.items,
            w.copy.ensures,
            c.loop-target.invariant,
          )
      | else-not-is_among w ↦
          let same =
          areas_unchanged ts c.loop-target.target-index _ c.loop-target-test.true c.target-item.is
          (subst P before (w.if-not-is_among.ensures.0 refl)) in
          cc (same, w.areas-is, c.loop-target.invariant)
    ]
