-- The first step: the queue is empty, and its basis is named.
use Rattle.std.proofs.Common.{◌≡◌, ℕ, zero, suc, List, [], ◌∷◌, ◌++◌, set, Some, None, sym}
use Rattle.std.proofs.Common.{refl, ap}
use Rattle.std.proofs.Common.{◌∙◌, subst, inl, inr, arith}
use mathlib.Core.Option.{some, some-injective, some-ne-none}
use lib.ListN.{get_elem?}
use Rattle.crossbeam_queue.specs.Fifo.{Forks}
use Rattle.plum_base.specs.declared.entry.Entry.{Entry}
use Rattle.plum_base.specs.declared.setup.Setup.{Setup}
use Rattle.plum_core.specs.History.{IsValidHistory}
use Rattle.plum_lanes.specs.declared.rule.Basis.{Basis}
use Rattle.plum_lanes.specs.declared.rule.View.{View}
use Rattle.plum_lanes.specs.Rule.{gatherer, spent, blank, IsRuled, Holds}
use Rattle.plum_lanes.proofs.Views.{Fits, spent-fits, off}

pub begins : Holds [] (blank ∷ [])
begins = inl (refl, refl)

-- No entry is a valid history.
pub no_entry : (setup : Setup) (stations : ℕ) → IsValidHistory setup stations []
no_entry setup stations [] e later is = cc
no_entry setup stations (f ∷ fs) e later is = cc

module _ (k : Basis) where
  -- the gatherer, which knows the basis
  abbrev named : View
  named = gatherer (Some k) [] 0 []

  each_fits : (j : ℕ) (u : View) → get_elem? (named ∷ spent ∷ []) j ≡ some u
      → Fits k 0 0 [] [] (λ _. 0) [] j u
  each_fits zero u e =
      let same = some-injective named u e in
      subst (Fits k 0 0 [] [] (λ _. 0) [] 0) same ((λ _. (refl, refl)), (λ may. absurd (off may)))
  each_fits (suc zero) u e =
      let same = some-injective spent u e in
      subst (Fits k 0 0 [] [] (λ _. 0) [] 1) same (spent-fits k 0 0 [] [] (λ _. 0) [] 1)
  each_fits (suc (suc j)) u e = absurd (some-ne-none u (sym e))

  first_ruled : IsRuled [] (named ∷ spent ∷ [])
  first_ruled = record {
    basis = k;
    gatherer_pass = 0;
    out = 0;
    gathered = [];
    settled = [];
    lane_pass = λ _. 0;
    history_valid = no_entry k.setup k.stations;
    queue_bounded = omega arith;
    front = λ lane. ([], refl);
    returned = λ lane le. refl;
    each = each_fits;
  }

  first_at : (m : ℕ) (v : View) → get_elem? (blank ∷ []) m ≡ some v → m ≡ 0
  first_at zero v e = refl
  first_at (suc m) v e = absurd (some-ne-none v (sym e))

  -- The first pass is told the basis, and a spare one is made.
  pub names : (n : ℕ) (v : View) → v ≡ blank → Forks Holds n v named spent
  names n v is items views h at = elim h [
    | inl fresh ↦
        let one : get_elem? (blank ∷ []) n ≡ some v =
        ap (λ l. get_elem? l n) (sym fresh.1) ∙ at in
        inr (subst (λ (y : List Entry × List View). IsRuled y.0 y.1)
        (λ i. (sym fresh.0 i, set (sym fresh.1 i) (sym (first_at n v one) i) named ++ spent ∷ []))
        first_ruled)
    | inr r ↦
        let mine = (r.each n v at).0 (ap (λ (u : View). u.gathers) is) in
        let bad : None ≡ Some r.basis = ap (λ (u : View). u.basis) (sym is ∙ mine.1) in cc
  ]
