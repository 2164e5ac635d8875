-- A packet at a lane: its station stands for one more, the others as they did, and the lane keeps
-- its backlog and its counts.
use Rattle.std.proofs.Common.{◌≡◌, ◌≢◌, ℕ, ◌+◌, ◌*◌, ◌/◌, ◌%◌, ◌<◌, List, [], ◌∷◌, ◌++◌, length}
use Rattle.std.proofs.Common.{length-set, length-append, set, get_or, get_or-set_same}
use Rattle.std.proofs.Common.{get_or-set_other, Option, None, sym, ◌∙◌, ap, subst, arith}
use Rattle.std.proofs.lemmas.List.{length-map}
use Rattle.std.proofs.Math.Nat.{div-add-mod}
use Rattle.std.specs.Option.{option_to_list}
use native.Mathlib.Decide.{ℕ_discrete}
use Rattle.plum_base.specs.declared.entry.Entry.{Entry}
use Rattle.plum_base.specs.declared.packet.Packet.{Packet}
use Rattle.plum_base.specs.Lane.{lane_of}
use Rattle.plum_seq.specs.Keys.{kept}
use Rattle.plum_core.specs.declared.station.Station.{Station}
use Rattle.plum_core.specs.declared.station.Taken.{Taken}
use Rattle.plum_core.specs.Facts.{IsBacklog}
use Rattle.plum_core.specs.History.{packet_of, HoldsKept}
use Rattle.plum_core.specs.Laws.{GivingKeeps, OthersStand}
use Rattle.plum_core.specs.Station.{Stands, Gives, waiting_of}
use Rattle.plum_lanes.specs.declared.lanes.Lane.{Lane}
use Rattle.plum_lanes.specs.Opening.{Opening}
use Rattle.plum_lanes.specs.Lanes.{StandForTaken, IsLane, HasTaken, IsForLane, sent}

-- Two stations of one lane stand at two positions.
two_positions : (n s t : ℕ) → s % n ≡ t % n → s / n ≡ t / n → s ≡ t
two_positions n s t rest position =
    sym (div-add-mod s n) ∙ ap (λ m. n * m + s % n) position ∙ ap (λ m. n * (t / n) + m) rest
    ∙ div-add-mod t n

-- The kept packets are as many as the entries that were sent and that wait.
count_kept : (out : List Entry) (waiting : Option Entry) (taken : List Packet)
    → HoldsKept (out ++ option_to_list waiting) taken
    → length (kept taken) ≡ length out + length (option_to_list waiting)
count_kept out waiting taken holds =
    ap length (sym holds) ∙ length-map (out ++ option_to_list waiting) packet_of
    ∙ length-append out (option_to_list waiting)

module _ (opening : Opening) (number : ℕ) (taken : List Packet) (p : Packet) (x : Station)
    (own : IsForLane opening number p) where
  -- where the station of the packet stands
  abbrev position : ℕ
  position = p.station.0 / opening.basis.setup.lanes

  -- The packet is given to its station.
  stand_more : OthersStand → (before after : List Station) → after ≡ set before position x
      → Stands x opening.basis.setup p.station.0 (taken ++ p ∷ [])
      → StandForTaken opening.basis number taken before
      → StandForTaken opening.basis number (taken ++ p ∷ []) after
  stand_more others before after is stands all s listed of_lane =
      let n = opening.basis.setup.lanes in
      let was = all s listed of_lane in
      let long : length after ≡ length before = ap length is ∙ length-set before position x in
      let Good : ℕ → Station → Type 0 = λ t station.
      Stands station opening.basis.setup t (taken ++ p ∷ []) in (
        subst (λ m. s / n < m) (sym long) was.0,
        λ d. elim (ℕ_discrete s p.station.0) [
          | yes q ↦
              let here : position < length before = subst (λ t. t / n < length before) q was.0 in
              let x_is : x ≡ get_or after (s / n) d =
              sym (ap (λ xs. get_or xs (s / n) d) is
              ∙ ap (λ t. get_or (set before position x) (t / n) d) q
              ∙ get_or-set_same before position x d here) in
              subst (Good s) x_is (subst (λ t. Good t x) (sym q) stands)
          | no q ↦
              let apart : s / n ≢ position = λ same.
              q (two_positions n s p.station.0 (of_lane ∙ sym own.1) same) in
              let same : get_or before (s / n) d ≡ get_or after (s / n) d =
              sym (ap (λ xs. get_or xs (s / n) d) is
              ∙ get_or-set_other before position (s / n) x d apart) in
              subst (Good s) same
              (others (get_or before (s / n) d) opening.basis.setup s taken p (λ e. q (sym e))
              (was.1 d))
        ],
      )

  -- The lane has taken one packet more.
  pub HasTaken-more : OthersStand → GivingKeeps → (before after : Lane) (given : Taken)
      → HasTaken opening number taken before → IsLane opening number after
      → before.waiting ≡ None
      → Gives opening.basis.setup taken
      (record { 0 = lane_of opening.basis.setup.lanes p.station.0 }) p given
      → Stands x opening.basis.setup p.station.0 (taken ++ p ∷ [])
      → after.stations.items ≡ set before.stations.items position x
      → after.waiting ≡ waiting_of given → sent after ≡ sent before
      → after.kept ≡ before.kept + length (option_to_list (waiting_of given))
      → after.kept + after.repeats ≡ before.kept + before.repeats + 1
      → HasTaken opening number (taken ++ p ∷ []) after
  HasTaken-more others giving before after given has is_lane free gives stands stations waiting
      same count counted =
      let setup = opening.basis.setup in
      let Backlog : ℕ → List Packet → Option Entry → List Entry → Type 0 = λ lane ps w es.
      IsBacklog setup opening.basis.stations lane ps w es in
      let old : Backlog (lane_of setup.lanes p.station.0) taken None (sent before) =
      subst (λ (y : ℕ × Option Entry). Backlog y.0 taken y.1 (sent before))
      (λ i. (sym own.1 i, free i)) has.backlog in
      let new = giving setup opening.basis.stations taken p (sent before) given own.0 gives old in
      let was : length (kept taken) ≡ length (sent before) + 0 =
      count_kept (sent before) None taken old.kept in
      let is : length (kept (taken ++ p ∷ []))
      ≡ length (sent before) + length (option_to_list (waiting_of given)) =
      count_kept (sent before) (waiting_of given) (taken ++ p ∷ []) new.kept in
      let kept_is = has.kept_is in
      let counted_is = has.counted in
      record {
        is_lane = is_lane;
        stand = stand_more others before.stations.items after.stations.items stations stands
            has.stand;
        backlog =
            subst (λ (y : ℕ × Option Entry × List Entry). Backlog y.0 (taken ++ p ∷ []) y.1 y.2)
            (λ i. (own.1 i, sym waiting i, sym same i)) new;
        kept_is = omega arith;
        counted = omega (arith, length-append taken (p ∷ []));
      }
