-- A lane's pass leaves the gatherer, or comes back to it; and a spare pass is made.
use Rattle.std.proofs.Common.{◌≡◌, ◌≢◌, ℕ, ◌+◌, ◌-◌, ◌<◌, ◌≤◌, ◌==◌, true, List, [], ◌∷◌}
use Rattle.std.proofs.Common.{◌++◌, length}
use Rattle.std.proofs.Common.{set, append-nil, Some, sym, ap, ◌∙◌, subst, inr, ⊎_elim, eq-eqb}
use Rattle.std.proofs.Common.{ne_eqb, le_refl, arith}
use Rattle.std.specs.Prelude.{if◌then◌else◌}
use native.Mathlib.Decide.{ℕ_discrete}
use mathlib.Core.Option.{some}
use lib.ListN.{get_elem?}
use Rattle.crossbeam_queue.specs.Fifo.{Forks, Merges}
use Rattle.crossbeam_queue.proofs.Lists.{at_set, at_snoc, set_again}
use Rattle.plum_base.specs.declared.entry.Entry.{Entry}
use Rattle.plum_core.specs.History.{entries_of_lane}
use Rattle.plum_lanes.specs.declared.rule.Basis.{Basis}
use Rattle.plum_lanes.specs.declared.rule.View.{View}
use mathlib.Core.List.{IsPrefix}
use Rattle.plum_lanes.specs.Rule.{settled_at, settle, gatherer, sender, spent, IsRuled}
use Rattle.plum_lanes.specs.Rule.{Holds}
use Rattle.plum_lanes.proofs.Views.{Fits, spent-fits, off, all_set, at_end, ruled_of, settled-same}
use Rattle.plum_lanes.proofs.Views.{settled-other}

-- the passes of the lanes, with one more
abbrev lane_pass_with : (ℕ → ℕ) → ℕ → ℕ → ℕ → ℕ
lane_pass_with lane_pass out pass lane = if lane == out then pass else lane_pass lane

lane_pass_with-same : (lane_pass : ℕ → ℕ) (out pass lane : ℕ) → lane ≡ out
    → lane_pass_with lane_pass out pass lane ≡ pass
lane_pass_with-same lane_pass out pass lane e =
    ap (λ b. if b then pass else lane_pass lane) (eq-eqb lane out e)

lane_pass_with-other : (lane_pass : ℕ → ℕ) (out pass lane : ℕ) → lane ≢ out
    → lane_pass_with lane_pass out pass lane ≡ lane_pass lane
lane_pass_with-other lane_pass out pass lane e =
    ap (λ b. if b then pass else lane_pass lane) (ne_eqb lane out e)

module _ (n : ℕ) (k : Basis) (v : View) (may : v.gathers ≡ true) (known : v.basis ≡ Some k) where
  -- ---- a lane's pass leaves

  -- the gatherer, and the lane, after it
  abbrev left : View
  left = gatherer v.basis v.gathered (v.out + 1) v.settled

  abbrev right : View
  right = sender v.basis v.out (settled_at v.settled v.out)

  module _ (items : List Entry) (views : List View) (r : IsRuled items views)
      (at : get_elem? views n ≡ some v) where
    abbrev mine : (n ≡ r.gatherer_pass) × (v ≡ gatherer (Some r.basis) r.gathered r.out r.settled)
    mine = (r.each n v at).0 may

    abbrev all : List Entry
    all = r.gathered ++ items

    out_is : v.out ≡ r.out
    out_is = ap (λ (u : View). u.out) mine.1

    -- the views, but for the new one
    abbrev now : List View
    now = set views n left

    abbrev lane_pass : ℕ → ℕ
    lane_pass = lane_pass_with r.lane_pass r.out (length now)

    abbrev FitsNow : ℕ → View → Type 0
    FitsNow = Fits r.basis r.gatherer_pass (r.out + 1) r.gathered r.settled lane_pass all

    old_fits : (j : ℕ) (u : View) → get_elem? now j ≡ some u → FitsNow j u
    old_fits =
        all_set FitsNow views n left (
          (λ _. (
            mine.0,
            ap (λ (u : View). gatherer u.basis u.gathered (u.out + 1) u.settled) mine.1,
          )),
          (λ p. absurd (off p)),
        )
        (λ j u apart is.
        let was = r.each j u is in (
          (λ p. absurd (apart ((was.0 p).0 ∙ sym mine.0))),
          λ p.
              let t = was.1 p in
              let below : u.lane < r.out = t.0 in
              let other : u.lane ≢ r.out = λ q. omega arith in (
                omega arith,
                t.1 ∙ sym (lane_pass_with-other r.lane_pass r.out (length now) u.lane other),
                t.2,
                t.3,
              ),
        ))

    new_fits : FitsNow (length now) right
    new_fits =
        let is_out : v.out ≡ r.out = out_is in
        let settled_is : settled_at v.settled v.out ≡ entries_of_lane v.out all =
        ap (λ (u : View). settled_at u.settled u.out) mine.1 ∙ r.returned r.out (le_refl r.out)
        ∙ ap (λ lane. entries_of_lane lane all) (sym out_is) in (
          (λ p. absurd (off p)),
          (λ _. (
            omega arith,
            sym (lane_pass_with-same r.lane_pass r.out (length now) v.out out_is),
            ap (λ (u : View). u.basis) mine.1,
            settled_is,
          )),
        )

    leaves_ruled : IsRuled items (now ++ right ∷ [])
    leaves_ruled = record {
      basis = r.basis;
      gatherer_pass = r.gatherer_pass;
      out = r.out + 1;
      gathered = r.gathered;
      settled = r.settled;
      lane_pass = lane_pass;
      history_valid = r.history_valid;
      queue_bounded = r.queue_bounded;
      front = r.front;
      returned = λ lane le. r.returned lane (omega arith);
      each = λ j u is.
          ⊎_elim (λ was. old_fits j u was)
          (λ (new : (j ≡ length now) × (right ≡ u)).
          subst (λ (y : ℕ × View). FitsNow y.0 y.1) (λ i. (sym new.0 i, new.1 i)) new_fits)
          (at_end now right u j is);
    }

  pub leaves : Forks Holds n v left right
  leaves items views h at =
      inr (leaves_ruled items views (ruled_of items views n k v known at h) at)

  -- ---- the last lane's pass comes back

  module _ (other : ℕ) (u : View) (sends_it : u.sends ≡ true) (last : u.lane + 1 ≡ v.out) where
    -- the gatherer after it
    abbrev both : View
    both = gatherer v.basis v.gathered (v.out - 1) (settle v.settled (v.out - 1) u.sent)

    module _ (items : List Entry) (views : List View) (r : IsRuled items views)
        (at : get_elem? views n ≡ some v) (apart : ¬ (other ≡ n))
        (there : get_elem? (set views n both) other ≡ some u) where
      abbrev ours : (n ≡ r.gatherer_pass) × (v ≡ gatherer (Some r.basis) r.gathered r.out r.settled)
      ours = (r.each n v at).0 may

      abbrev sent_all : List Entry
      sent_all = r.gathered ++ items

      -- where the lane's pass stood before
      stood : get_elem? views other ≡ some u
      stood =
          ⊎_elim (λ (t : (other ≡ n) × (both ≡ u)). absurd (apart t.0))
          (λ (t : (other ≢ n) × (get_elem? views other ≡ some u)). t.1)
          (at_set views n other both u there)

      abbrev theirs : (u.lane < r.out) × (other ≡ r.lane_pass u.lane) × (u.basis ≡ Some r.basis)
          × (u.sent ≡ entries_of_lane u.lane sent_all)
      theirs = (r.each other u stood).1 sends_it

      all_out : v.out ≡ r.out
      all_out = ap (λ (z : View). z.out) ours.1

      abbrev settled : List (List Entry)
      settled = settle r.settled u.lane u.sent

      both_is : both ≡ gatherer (Some r.basis) r.gathered u.lane settled
      both_is =
          let less : v.out - 1 ≡ u.lane = omega arith in
          ap (λ (z : View).
          gatherer z.basis z.gathered (v.out - 1) (settle z.settled (v.out - 1) u.sent)) ours.1
          ∙ ap (λ m. gatherer (Some r.basis) r.gathered m (settle r.settled m u.sent)) less

      -- what is settled of the lane is all that it sent
      settled_all : (lane : ℕ) → lane ≡ u.lane
          → settled_at settled lane ≡ entries_of_lane lane sent_all
      settled_all lane e =
          ap (settled_at settled) e ∙ settled-same r.settled u.lane u.sent ∙ theirs.3
          ∙ ap (λ m. entries_of_lane m sent_all) (sym e)

      abbrev FitsThen : ℕ → View → Type 0
      FitsThen = Fits r.basis r.gatherer_pass u.lane r.gathered settled r.lane_pass sent_all

      -- each pass but that of the lane
      others_fit : (j : ℕ) (y : View) → get_elem? (set views n both) j ≡ some y → j ≢ other
          → FitsThen j y
      others_fit =
          all_set (λ j y. j ≢ other → FitsThen j y) views n both
          (λ _. ((λ _. (ours.0, both_is)), (λ p. absurd (off p))))
          (λ j y away is far.
          let was = r.each j y is in (
            (λ p. absurd (away ((was.0 p).0 ∙ sym ours.0))),
            λ p.
                let t = was.1 p in
                let not_it : y.lane ≢ u.lane = λ q.
                far (t.1 ∙ ap r.lane_pass q ∙ sym theirs.1) in
                let below : y.lane < r.out = t.0 in
                let out_is_last : v.out ≡ r.out = all_out in
                (omega arith, t.1, t.2, t.3),
          ))

      front_then : (lane : ℕ) → IsPrefix (settled_at settled lane) (entries_of_lane lane sent_all)
      front_then lane = elim (ℕ_discrete lane u.lane) [
        | yes e ↦ ([], append-nil (settled_at settled lane) ∙ settled_all lane e)
        | no e ↦
            let before = r.front lane in (
              before.0,
              ap (λ es. es ++ before.0) (settled-other r.settled u.lane lane u.sent e) ∙ before.1,
            )
      ]

      returned_then : (lane : ℕ) → u.lane ≤ lane
          → settled_at settled lane ≡ entries_of_lane lane sent_all
      returned_then lane le = elim (ℕ_discrete lane u.lane) [
        | yes e ↦ settled_all lane e
        | no e ↦
            let out_is_last : v.out ≡ r.out = all_out in
            settled-other r.settled u.lane lane u.sent e ∙ r.returned lane (omega arith)
      ]

      joins_ruled : IsRuled items (set (set views n both) other spent)
      joins_ruled = record {
        basis = r.basis;
        gatherer_pass = r.gatherer_pass;
        out = u.lane;
        gathered = r.gathered;
        settled = settled;
        lane_pass = r.lane_pass;
        history_valid = r.history_valid;
        queue_bounded = r.queue_bounded;
        front = front_then;
        returned = returned_then;
        each =
            all_set FitsThen (set views n both) other spent
            (spent-fits r.basis r.gatherer_pass u.lane r.gathered settled r.lane_pass sent_all
            other)
            (λ j y far is. others_fit j y is far);
      }

    pub joins : Merges Holds n v other u both spent
    joins items views h at apart there =
        inr (joins_ruled items views (ruled_of items views n k v known at h) at apart there)

-- ---- a spare pass is made

pub spares : (n : ℕ) (k : Basis) (v : View) → v.basis ≡ Some k → Forks Holds n v v spent
spares n k v known items views h at =
    let r = ruled_of items views n k v known at h in
    let FitsAs : ℕ → View → Type 0 =
    Fits r.basis r.gatherer_pass r.out r.gathered r.settled r.lane_pass (r.gathered ++ items) in
    inr (record {
      basis = r.basis;
      gatherer_pass = r.gatherer_pass;
      out = r.out;
      gathered = r.gathered;
      settled = r.settled;
      lane_pass = r.lane_pass;
      history_valid = r.history_valid;
      queue_bounded = r.queue_bounded;
      front = r.front;
      returned = r.returned;
      each = λ j u is.
          ⊎_elim (λ was.
          r.each j u (subst (λ l. get_elem? l j ≡ some u) (set_again views n v at) was))
          (λ (new : spent ≡ u).
          subst (FitsAs j) new
          (spent-fits r.basis r.gatherer_pass r.out r.gathered r.settled r.lane_pass
          (r.gathered ++ items) j))
          (at_snoc (set views n v) spent u j is);
    })
