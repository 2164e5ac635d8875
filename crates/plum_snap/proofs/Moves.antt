-- Each kind of step keeps the snapshot rule.
use Rattle.std.proofs.Common.{◌≡◌, ◌≢◌, ℕ, true≢false, List, set, length, drop, sym, refl, ◌∙◌}
use Rattle.std.proofs.Common.{subst, ⊎_elim}
use mathlib.Core.Option.{some}
use lib.ListN.{get_elem?}
use Rattle.crossbeam_utils.specs.Register.{Admits, Turns, TurnsAt, Forks, Merges}
use Rattle.atomic_table.proofs.Lists.{at_set, at_snoc}
use Rattle.plum_snap.specs.declared.snapshot.Snapshot.{Snapshot}
use Rattle.plum_snap.specs.declared.rule.View.{View}
use Rattle.plum_snap.specs.Snapshots.{Grows}
use Rattle.plum_snap.specs.Rule.{saw, nobody, Fits, Holds, Sees}
use base.Growing.{prefix_refl, prefix_trans}
use Rattle.plum_snap.proofs.Fronts.{prefix_drop}

-- what holds of each end, with one end changed
all_set : (F : View → Type 0) (ends : List View) (n : ℕ) (w : View) → F w
    → ((j : ℕ) (u : View) → get_elem? ends j ≡ some u → F u)
    → (j : ℕ) (u : View) → get_elem? (set ends n w) j ≡ some u → F u
all_set F ends n w mine others j u e =
    ⊎_elim (λ (x : (j ≡ n) × (w ≡ u)). subst F x.1 mine)
    (λ (x : (j ≢ n) × (get_elem? ends j ≡ some u)). others j u x.1) (at_set ends n j w u e)

nobody_fits : (x : Snapshot) → Fits x nobody
nobody_fits x = record {
  front = (x.front.entries, refl);
  list = λ known. absurd (true≢false (sym known));
  sites = λ known. absurd (true≢false (sym known));
}

later_fits : (x y : Snapshot) (u : View) → Grows x y → Fits x u → Fits y u
later_fits x y u g f = record {
  front = prefix_trans u.seen.front.entries x.front.entries y.front.entries f.front
      (drop (length x.front.entries) y.front.entries, sym g.longer);
  list = λ known. f.list known ∙ sym g.list;
  sites = λ known. f.sites known ∙ sym g.sites;
}

saw_fits : (y : Snapshot) → Fits y (saw y)
saw_fits y = record {
  front = prefix_refl y.front.entries;
  list = λ _. refl;
  sites = λ _. refl;
}

-- a new end
pub admits : Admits Holds nobody
admits x ends h = record {
  right = h.right;
  fits = λ j u e. ⊎_elim (λ was. h.fits j u was)
      (λ (same : nobody ≡ u). subst (Fits x) same (nobody_fits x)) (at_snoc ends nobody u j e);
}

-- the writer shows more
pub grows : (n : ℕ) (v : View) (x y : Snapshot) → Grows x y → TurnsAt Holds n v x y Sees
grows n v x y g ends h at = (
  saw y,
  record {
    right = g.right;
    fits = all_set (Fits y) ends n (saw y) (saw_fits y)
        (λ j u e. later_fits x y u g (h.fits j u e));
  },
  record { seen = refl; right = g.right; fits = later_fits x y v g (h.fits n v at) },
)

-- a reader enters
pub sees : (n : ℕ) (v : View) → Turns Holds n v (λ x. x) Sees
sees n v x ends h at =
    let same : Grows x x = record {
      right = h.right;
      sites = refl;
      list = refl;
      longer = prefix_drop x.front.entries x.front.entries (prefix_refl x.front.entries);
    } in
    grows n v x x same ends h at

-- the writer tells what it knows
pub forks : (n : ℕ) (v : View) → Forks Holds n v v v
forks n v x ends h at = record {
  right = h.right;
  fits = λ j u e. ⊎_elim
      (λ was. all_set (Fits x) ends n v (h.fits n v at) h.fits j u was)
      (λ (same : v ≡ u). subst (Fits x) same (h.fits n v at)) (at_snoc (set ends n v) v u j e);
}

-- a reader learns it
pub merges : (n : ℕ) (v : View) (other : ℕ) (u : View) → Merges Holds n v other u u nobody
merges n v other u x ends h at apart there =
    let was : get_elem? ends other ≡ some u =
    ⊎_elim (λ (t : (other ≡ n) × (u ≡ u)). absurd (apart t.0))
    (λ (t : (other ≢ n) × (get_elem? ends other ≡ some u)). t.1) (at_set ends n other u u there) in
    record {
      right = h.right;
      fits = all_set (Fits x) (set ends n u) other nobody (nobody_fits x)
          (all_set (Fits x) ends n u (h.fits other u was) h.fits);
    }
