-- A lane sends an entry, or finds the queue full.
use Rattle.std.proofs.Common.{◌≡◌, ◌≢◌, ℕ, ◌<◌, ◌≤◌, true, List, [], ◌∷◌, ◌++◌, length, set}
use Rattle.std.proofs.Common.{length-append, append_assoc, Some, sym, refl, ap, ◌∙◌, subst}
use Rattle.std.proofs.Common.{inr, arith}
use mathlib.Core.Option.{some}
use lib.ListN.{get_elem?}
use Rattle.crossbeam_queue.specs.Fifo.{Pushes, Learns}
use Rattle.plum_base.specs.declared.entry.Entry.{Entry}
use Rattle.plum_core.specs.Facts.{IsInLaneOrder, IsQueueBounded}
use Rattle.plum_core.specs.History.{entries_of_lane}
use Rattle.plum_core.specs.Laws.{NextEntryJoins, OrderJoins, OrderStays, FrontOfLane}
use Rattle.plum_lanes.specs.declared.rule.Basis.{Basis}
use Rattle.plum_lanes.specs.declared.rule.View.{View}
use mathlib.Core.List.{IsPrefix}
use Rattle.plum_lanes.specs.Rule.{IsValid, IsNext, settled_at, sender, IsRuled, Holds}
use Rattle.plum_lanes.specs.Rule.{IsSentThen}
use Rattle.plum_lanes.proofs.Views.{Fits, off, all_set, ruled_for, Some-injective}

-- The laws of histories come in as premises: the step calls them.
module _ (joins : NextEntryJoins) (orders : OrderJoins) (others : OrderStays)
    (appends : FrontOfLane) (cap n : ℕ) (v : View) (e : Entry) (may : v.sends ≡ true)
    (own : e.lane.0 ≡ v.lane)
    (next : (k : Basis) → v.basis ≡ Some k → (cap ≡ k.setup.queue) × IsNext k v.sent e) where
  -- the lane, one entry on
  abbrev after : View
  after = sender v.basis v.lane (v.sent ++ e ∷ [])

  module _ (queue : List Entry) (views : List View) (room : length queue < cap)
      (r : IsRuled queue views) (at : get_elem? views n ≡ some v) where
    -- all that was sent, before and after
    abbrev all : List Entry
    all = r.gathered ++ queue

    abbrev more : List Entry
    more = r.gathered ++ (queue ++ e ∷ [])

    joined : all ++ e ∷ [] ≡ more
    joined = append_assoc r.gathered queue (e ∷ [])

    -- what the rule says of the lane
    abbrev mine : (v.lane < r.out) × (n ≡ r.lane_pass v.lane) × (v.basis ≡ Some r.basis)
        × IsInLaneOrder v.lane v.sent all
    mine = (r.each n v at).1 may

    abbrev right : (cap ≡ r.basis.setup.queue) × IsNext r.basis v.sent e
    right = next r.basis mine.2

    -- each other lane has what it had
    other_lane : (lane : ℕ) → e.lane.0 ≢ lane
        → entries_of_lane lane all ≡ entries_of_lane lane more
    other_lane lane apart =
        others lane e (entries_of_lane lane all) all apart refl ∙ ap (entries_of_lane lane) joined

    bounded : IsQueueBounded r.basis.setup.queue (queue ++ e ∷ [])
    bounded =
        let bound : cap ≡ r.basis.setup.queue = right.0 in
        omega (arith, length-append queue (e ∷ []))

    front : (lane : ℕ) → IsPrefix (settled_at r.settled lane) (entries_of_lane lane more)
    front lane =
        let before = r.front lane in
        let new = entries_of_lane lane (e ∷ []) in (
          before.0 ++ new,
          sym (append_assoc (settled_at r.settled lane) before.0 new)
              ∙ ap (λ es. es ++ new) before.1 ∙ sym (appends lane all (e ∷ []))
              ∙ ap (entries_of_lane lane) joined,
        )

    returned : (lane : ℕ) → r.out ≤ lane → settled_at r.settled lane ≡ entries_of_lane lane more
    returned lane le =
        let below : v.lane < r.out = mine.0 in
        let apart : e.lane.0 ≢ lane = λ q. omega arith in
        r.returned lane le ∙ other_lane lane apart

    each : (j : ℕ) (u : View) → get_elem? (set views n after) j ≡ some u
        → Fits r.basis r.gatherer_pass r.out r.gathered r.settled r.lane_pass more j u
    each =
        all_set (Fits r.basis r.gatherer_pass r.out r.gathered r.settled r.lane_pass more) views n
        after (
          (λ p. absurd (off p)),
          (λ _. (
            mine.0,
            mine.1,
            mine.2,
            subst (IsInLaneOrder v.lane (v.sent ++ e ∷ [])) joined
                (orders v.lane e v.sent all own mine.3),
          )),
        )
        (λ j u apart is.
        let was = r.each j u is in (
          was.0,
          λ p.
              let t = was.1 p in
              let other : e.lane.0 ≢ u.lane = λ q.
              apart (t.1 ∙ ap r.lane_pass (sym q ∙ own) ∙ sym mine.1) in
              (t.0, t.1, t.2, t.3 ∙ other_lane u.lane other),
        ))

    stays_ruled : IsRuled (queue ++ e ∷ []) (set views n after)
    stays_ruled = record {
      basis = r.basis;
      gatherer_pass = r.gatherer_pass;
      out = r.out;
      gathered = r.gathered;
      settled = r.settled;
      lane_pass = r.lane_pass;
      history_valid =
          subst (IsValid r.basis) joined
          (joins r.basis.setup r.basis.stations v.lane e v.sent all r.history_valid mine.3 own
          right.1);
      queue_bounded = bounded;
      front = front;
      returned = returned;
      each = each;
    }

  -- The entry joins the queue, and what the lane sent.
  pub sends : Pushes Holds cap n v e (λ w. w ≡ after)
  sends queue views room h at =
      (after, inr (stays_ruled queue views room (ruled_for queue views n v may at h) at), refl)

-- A full queue tells that what the lane sent is its entries in what is gathered and queued.
pub full : (n : ℕ) (v : View) → v.sends ≡ true → Learns Holds n v (IsSentThen v)
full n v may queue views h at =
    let r = ruled_for queue views n v may at h in
    let mine = (r.each n v at).1 may in
    record {
      gathered = r.gathered;
      in_order = mine.3;
      valid = λ basis is.
          let same : r.basis ≡ basis = Some-injective (sym mine.2 ∙ is) in
          subst (λ (t : Basis). IsValid t (r.gathered ++ queue)) same r.history_valid;
    }
