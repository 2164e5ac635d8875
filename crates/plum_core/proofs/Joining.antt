-- A history, one more packet on.
use Rattle.std.proofs.Common.{◌≡◌, ℕ, ◌<◌, true, false, ◌⊎◌, List, [], ◌∷◌, ◌++◌, inl, inr, refl}
use Rattle.std.proofs.Common.{sym, ◌∙◌, ap, subst, append_assoc}
use Rattle.std.proofs.lemmas.List.{map-append, same_from_push}
use Rattle.plum_base.specs.declared.entry.Entry.{Entry}
use Rattle.plum_base.specs.declared.packet.Packet.{Packet}
use Rattle.plum_base.specs.declared.numbers.LaneNo.{LaneNo}
use Rattle.plum_base.specs.declared.setup.Setup.{Setup}
use Rattle.plum_base.specs.Lane.{lane_of}
use Rattle.plum_base.proofs.Pushes.{by_push}
use Rattle.plum_seq.specs.Keys.{of_station, is_kept, kept_after, kept, is_fresh, with_fresh}
use Rattle.plum_seq.specs.Laws.{KeptJoins, RepeatLeaves, KeptByStation, FreshAlone, KeptAfterKept}
use Rattle.plum_seq.specs.Laws.{FreshAfterKept}
use Rattle.plum_engine.specs.Value.{IsValue}
use Rattle.plum_engine.specs.Run.{samples_since_gap}
use Rattle.plum_engine.specs.Signal.{amplitudes_of}
use Rattle.plum_core.specs.History.{packet_of, packets_of, IsEntryAfter, IsValidHistory, HoldsKept}
use Rattle.plum_core.specs.Station.{IsEntryOf}

-- what is known of keys, where the entry of a kept packet joins a history
pub record KeyLaws : Type 0 where
  pub joins : KeptJoins
  pub leaves : RepeatLeaves
  pub by_station : KeptByStation
  pub fresh_alone : FreshAlone
  pub after_kept : KeptAfterKept
  pub fresh_after_kept : FreshAfterKept

-- the same, one by one
pub known : KeptJoins → RepeatLeaves → KeptByStation → FreshAlone → KeptAfterKept → FreshAfterKept
    → KeyLaws
known joins leaves by_station fresh_alone after_kept fresh_after_kept = record {
  joins = joins;
  leaves = leaves;
  by_station = by_station;
  fresh_alone = fresh_alone;
  after_kept = after_kept;
  fresh_after_kept = fresh_after_kept;
}

-- what a history of the kept packets has of a station
pub packets_of-kept : KeptByStation → (s : ℕ) (history : List Entry) (ps : List Packet)
    → HoldsKept history ps → packets_of s history ≡ kept (of_station s ps)
packets_of-kept by_station s history ps holds = ap (of_station s) holds ∙ by_station s ps

-- No packet is kept of none.
pub HoldsKept-nil : HoldsKept [] []
unfolding kept_after
HoldsKept-nil = refl

-- A repeat leaves a history that of the kept packets.
pub HoldsKept-repeat : RepeatLeaves → (history : List Entry) (ps : List Packet) (p : Packet)
    → HoldsKept history ps → is_kept ps p ≡ false → HoldsKept history (ps ++ p ∷ [])
HoldsKept-repeat leaves history ps p holds is = holds ∙ sym (leaves ps p is)

module _ (laws : KeyLaws) (history : List Entry) (ps : List Packet)
    (holds : HoldsKept history ps) where
  -- The entry of a kept packet joins it.
  pub HoldsKept-push : (e : Entry) → is_kept ps (packet_of e) ≡ true
      → HoldsKept (history ++ e ∷ []) (ps ++ packet_of e ∷ [])
  HoldsKept-push e is =
      map-append packet_of history (e ∷ []) ∙ ap (λ k. k ++ packet_of e ∷ []) holds
      ∙ sym (laws.joins ps (packet_of e) is)

  -- An entry that is right after all packets is right after the history of the kept ones.
  pub IsEntryAfter-from_packets : (setup : Setup) (stations : ℕ) (lane : LaneNo) (e : Entry)
      → e.station.0 < stations → lane.0 ≡ lane_of setup.lanes e.station.0
      → IsEntryOf setup ps lane (packet_of e) e → IsEntryAfter setup stations history e
  IsEntryAfter-from_packets setup stations lane e listed lane_is entry =
      let p : Packet = packet_of e in
      let s : ℕ = e.station.0 in
      let more : List Packet = of_station s (ps ++ p ∷ []) in
      let own : with_fresh (packets_of s (history ++ e ∷ [])) ≡ with_fresh more =
      ap with_fresh (packets_of-kept laws.by_station s (history ++ e ∷ []) (ps ++ p ∷ [])
      (HoldsKept-push e entry.kept))
      ∙ laws.fresh_alone more in
      record {
        listed = listed;
        lane = ap (λ l. l.0) entry.lane_is ∙ lane_is;
        kept = ap (λ k. is_kept k p) holds ∙ laws.after_kept ps p ∙ entry.kept;
        fresh = entry.fresh ∙ sym (ap (λ k. is_fresh k p) holds ∙ laws.fresh_after_kept ps p);
        value =
            subst (λ given. IsValue setup.levels
            (amplitudes_of setup (samples_since_gap given)) e.value) (sym own) entry.value;
      }

-- where a list with one more at its end is split
split-push : {X : Type 0} (xs : List X) (x : X) (ys : List X) (y : X) (zs : List X)
    → xs ++ x ∷ [] ≡ ys ++ y ∷ zs
    → ((xs ≡ ys) × (x ≡ y)) ⊎ ((ws : List X) × (xs ≡ ys ++ y ∷ ws))
split-push {X} xs x ys y =
    by_push (λ zs. xs ++ x ∷ [] ≡ ys ++ y ∷ zs
    → ((xs ≡ ys) × (x ≡ y)) ⊎ ((ws : List X) × (xs ≡ ys ++ y ∷ ws)))
    (λ is. inl (same_from_push xs ys x y is))
    (λ ws w _ is.
    let joined : xs ++ x ∷ [] ≡ (ys ++ y ∷ ws) ++ w ∷ [] =
    is ∙ sym (append_assoc ys (y ∷ ws) (w ∷ [])) in
    inr (ws, (same_from_push xs (ys ++ y ∷ ws) x w joined).0))

module _ (setup : Setup) (stations : ℕ) where
  -- no entry, nothing that is not right
  pub IsValidHistory-nil : IsValidHistory setup stations []
  IsValidHistory-nil [] e later is = cc
  IsValidHistory-nil (f ∷ fs) e later is = cc

  -- A front of a valid history is valid.
  pub IsValidHistory-front : (front rest : List Entry)
      → IsValidHistory setup stations (front ++ rest) → IsValidHistory setup stations front
  IsValidHistory-front front rest valid earlier e later is =
      let whole : front ++ rest ≡ earlier ++ e ∷ (later ++ rest) =
      ap (λ h. h ++ rest) is ∙ append_assoc earlier (e ∷ later) rest in
      valid earlier e (later ++ rest) whole

  -- A valid history stays valid when an entry joins its end that is right after it.
  pub IsValidHistory-push : (history : List Entry) (e : Entry)
      → IsValidHistory setup stations history → IsEntryAfter setup stations history e
      → IsValidHistory setup stations (history ++ e ∷ [])
  IsValidHistory-push history e valid right earlier f later is =
      elim (split-push history e earlier f later is) [
        | inl last ↦
            subst (λ h. IsEntryAfter setup stations h f) last.0
            (subst (IsEntryAfter setup stations history) last.1 right)
        | inr before ↦ valid earlier f before.0 before.1
      ]

-- A packet that comes after these gives its entry, which joins the history of the kept ones.
module _ (laws : KeyLaws) (setup : Setup) (history : List Entry) (ps : List Packet) (p : Packet)
    (holds : HoldsKept history ps) (e : Entry)
    (entry : IsEntryOf setup ps (record { 0 = lane_of setup.lanes p.station.0 }) p e) where
  -- It is the entry of that packet,
  abbrev Gives : Packet → Type 0
  Gives q = IsEntryOf setup ps (record { 0 = lane_of setup.lanes q.station.0 }) q e

  -- and so of its own packet.
  own : Gives (packet_of e)
  own = subst Gives (sym entry.same_packet) entry

  -- The history is that of the kept packets, one packet on.
  pub HoldsKept-more : HoldsKept (history ++ e ∷ []) (ps ++ p ∷ [])
  HoldsKept-more =
      subst (λ (q : Packet). HoldsKept (history ++ e ∷ []) (ps ++ q ∷ [])) entry.same_packet
      (HoldsKept-push laws history ps holds e own.kept)

  -- It is valid.
  pub IsValidHistory-more : (stations : ℕ) → p.station.0 < stations
      → IsValidHistory setup stations history → IsValidHistory setup stations (history ++ e ∷ [])
  IsValidHistory-more stations listed valid =
      let listed_e : e.station.0 < stations =
      subst (λ (q : Packet). q.station.0 < stations) (sym entry.same_packet) listed in
      let lane : LaneNo = record { 0 = lane_of setup.lanes e.station.0 } in
      IsValidHistory-push setup stations history e valid
      (IsEntryAfter-from_packets laws history ps holds setup stations lane e listed_e refl own)
