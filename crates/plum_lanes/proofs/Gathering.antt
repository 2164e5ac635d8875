-- The gatherer takes an entry, or finds the queue empty.
use Rattle.std.proofs.Common.{◌≡◌, ℕ, suc, ◌≤◌, true, List, [], ◌∷◌, ◌++◌, length}
use Rattle.std.proofs.Common.{set, append_assoc}
use Rattle.std.proofs.Common.{Some, sym, refl, ap, ◌∙◌, subst, inr, arith}
use mathlib.Core.Option.{some}
use lib.ListN.{get_elem?}
use Rattle.crossbeam_queue.specs.Fifo.{Pops, Learns}
use Rattle.plum_base.specs.declared.entry.Entry.{Entry}
use Rattle.plum_core.specs.Facts.{IsQueueBounded}
use Rattle.plum_core.specs.History.{entries_of_lane}
use Rattle.plum_core.specs.Laws.{FrontIsValid}
use Rattle.plum_lanes.specs.declared.rule.Basis.{Basis}
use Rattle.plum_lanes.specs.declared.rule.View.{View}
use Rattle.plum_lanes.specs.Rule.{IsValid, gatherer, IsRuled, Holds, Gathers, IsGatheredThen}
use Rattle.plum_lanes.proofs.Views.{Fits, off, all_set, ruled_of, Some-injective}

module _ (n : ℕ) (k : Basis) (v : View) (may : v.gathers ≡ true) (known : v.basis ≡ Some k) where
  -- what is said of the basis that the pass knows
  for_known : (P : Basis → Type 0) (basis : Basis) → P basis
      → (other : Basis) → Some basis ≡ Some other → P other
  for_known P basis p other is = subst P (Some-injective is) p

  module _ (fronts : FrontIsValid) (e : Entry) (queue : List Entry) (views : List View)
      (r : IsRuled (e ∷ queue) views) (at : get_elem? views n ≡ some v) where
    -- the gatherer, one entry on
    abbrev after : View
    after = gatherer v.basis (v.gathered ++ e ∷ []) v.out v.settled

    abbrev mine : (n ≡ r.gatherer_pass) × (v ≡ gatherer (Some r.basis) r.gathered r.out r.settled)
    mine = (r.each n v at).0 may

    abbrev gathered : List Entry
    gathered = r.gathered ++ e ∷ []

    -- all that was sent stays the same
    joined : r.gathered ++ e ∷ queue ≡ gathered ++ queue
    joined = sym (append_assoc r.gathered (e ∷ []) queue)

    valid : IsValid r.basis (gathered ++ queue)
    valid = subst (IsValid r.basis) joined r.history_valid

    bounded : IsQueueBounded r.basis.setup.queue queue
    bounded =
        let before : suc (length queue) ≤ r.basis.setup.queue = r.queue_bounded in
        omega arith

    each : (j : ℕ) (u : View) → get_elem? (set views n after) j ≡ some u
        → Fits r.basis r.gatherer_pass r.out gathered r.settled r.lane_pass (gathered ++ queue) j u
    each =
        all_set
        (Fits r.basis r.gatherer_pass r.out gathered r.settled r.lane_pass (gathered ++ queue))
        views n after (
          (λ _. (
            mine.0,
            ap (λ (u : View). gatherer u.basis (u.gathered ++ e ∷ []) u.out u.settled) mine.1,
          )),
          (λ p. absurd (off p)),
        )
        (λ j u apart is.
        let was = r.each j u is in (
          (λ p. absurd (apart ((was.0 p).0 ∙ sym mine.0))),
          λ p.
              let t = was.1 p in
              (t.0, t.1, t.2, t.3 ∙ ap (entries_of_lane u.lane) joined),
        ))

    stays_ruled : IsRuled queue (set views n after)
    stays_ruled = record {
      basis = r.basis;
      gatherer_pass = r.gatherer_pass;
      out = r.out;
      gathered = gathered;
      settled = r.settled;
      lane_pass = r.lane_pass;
      history_valid = valid;
      queue_bounded = bounded;
      front = λ lane.
          let before = r.front lane in
          (before.0, before.1 ∙ ap (entries_of_lane lane) joined);
      returned = λ lane le. r.returned lane le ∙ ap (entries_of_lane lane) joined;
      each = each;
    }

    -- what it gathered is a front of a valid history
    gathers_valid : Gathers v e after
    gathers_valid = record {
      view = refl;
      valid =
          subst (λ (u : View). (basis : Basis) → u.basis ≡ Some basis
          → IsValid basis (u.gathered ++ e ∷ [])) (sym mine.1)
          (for_known (λ t. IsValid t gathered) r.basis
          (fronts r.basis.setup r.basis.stations gathered queue valid));
    }

  -- The first entry of the queue is gathered.
  pub gets : FrontIsValid → Pops Holds n v (Gathers v)
  gets fronts e queue views h at =
      let r = ruled_of (e ∷ queue) views n k v known at h in (
        after fronts e queue views r at,
        inr (stays_ruled fronts e queue views r at),
        gathers_valid fronts e queue views r at,
      )

  -- What the rule says of all that was gathered and is queued.
  pub learns : Learns Holds n v (IsGatheredThen v)
  learns queue views h at =
      let r = ruled_of queue views n k v known at h in
      let mine = (r.each n v at).0 may in
      subst (λ (u : View). IsGatheredThen u queue) (sym mine.1)
      (record {
        valid = for_known (λ t. IsValid t (r.gathered ++ queue)) r.basis r.history_valid;
        bounded = for_known (λ t. IsQueueBounded t.setup.queue queue) r.basis r.queue_bounded;
        front = r.front;
        returned = r.returned;
      })
