-- What taking a packet and sending an entry do to a lane.
use Rattle.std.proofs.Common.{◌≡◌, ℕ, ◌<◌, true, false, List, [], ◌∷◌, ◌++◌, map, Option, Some}
use Rattle.std.proofs.Common.{None, inl, inr, refl, sym, ◌∙◌, ap, subst, append-nil}
use Rattle.std.proofs.lemmas.Bool.{cases_Bool}
use Rattle.std.specs.Prelude.{if◌then◌else◌}
use Rattle.plum_base.specs.declared.entry.Entry.{Entry}
use Rattle.plum_base.specs.declared.numbers.Key.{Key}
use Rattle.plum_base.specs.declared.packet.Packet.{Packet}
use Rattle.plum_base.specs.declared.setup.Setup.{Setup}
use Rattle.plum_base.specs.Lane.{lane_of}
use Rattle.plum_base.specs.Levels.{IsLevelTable}
use Rattle.plum_seq.specs.Keys.{of_station, is_above_all, greatest_key, is_kept, is_fresh_after}
use Rattle.plum_engine.specs.Engine.{IsValueOf, ValueIs}
use Rattle.plum_core.specs.Facts.{IsInLaneOrder, IsBacklog}
use Rattle.plum_core.specs.History.{packet_of, packets_of, entries_of_lane, entry_of, IsEntryAfter}
use Rattle.plum_core.specs.History.{IsValidHistory, HoldsKept}
use Rattle.plum_core.specs.Machine.{waiting_after}
use Rattle.plum_core.specs.Station.{IsEntryOf}
use Rattle.plum_core.proofs.Joining.{KeyLaws, HoldsKept-push, HoldsKept-repeat}
use Rattle.plum_core.proofs.Joining.{IsEntryAfter-from_packets, IsValidHistory-push}
use Rattle.plum_core.proofs.Lanes.{packets_of-push, packets_of-lane}

-- An entry that is right after one history is right after another that has the same of its station.
IsEntryAfter-same : (setup : Setup) (stations : ℕ) (sent all : List Entry) (e : Entry)
    → packets_of e.station.0 sent ≡ packets_of e.station.0 all
    → IsEntryAfter setup stations sent e → IsEntryAfter setup stations all e
IsEntryAfter-same setup stations sent all e same right =
    let key : Packet → Key = λ p. p.key in
    record {
      listed = right.listed;
      lane = right.lane;
      kept = ap (λ ps. is_above_all (map key ps) e.key) (sym same) ∙ right.kept;
      fresh = right.fresh ∙ ap (λ ps. is_fresh_after (greatest_key (map key ps)) e.key) same;
      value =
          let s : ℕ = e.station.0 in
          let more : packets_of s (sent ++ e ∷ []) ≡ packets_of s (all ++ e ∷ []) =
          packets_of-push sent e ∙ ap (λ ps. ps ++ packet_of e ∷ []) same
          ∙ sym (packets_of-push all e) in
          subst (λ ps. IsValueOf setup ps e.value) more right.value;
    }

-- A lane's next entry joins a valid history.
pub IsValidHistory-joined : (setup : Setup) (stations lane : ℕ) (e : Entry) (sent all : List Entry)
    → IsValidHistory setup stations all → IsInLaneOrder lane sent all → e.lane.0 ≡ lane
    → IsEntryAfter setup stations sent e → IsValidHistory setup stations (all ++ e ∷ [])
IsValidHistory-joined setup stations lane e sent all valid order of_lane right =
    let lane_is : lane ≡ lane_of setup.lanes e.station.0 = sym of_lane ∙ right.lane in
    let same : packets_of e.station.0 sent ≡ packets_of e.station.0 all =
    ap (packets_of e.station.0) (order ∙ ap (λ l. entries_of_lane l all) lane_is)
    ∙ packets_of-lane setup stations e.station.0 all valid in
    IsValidHistory-push setup stations all e valid
    (IsEntryAfter-same setup stations sent all e same right)

module _ (setup : Setup) (stations lane : ℕ) (taken : List Packet) (e : Entry) (sent : List Entry)
    (backlog : IsBacklog setup stations lane taken (Some e) sent) where
  -- The waiting entry of a lane joins a valid history.
  pub IsValidHistory-sent : (all : List Entry) → IsValidHistory setup stations all
      → IsInLaneOrder lane sent all → IsValidHistory setup stations (all ++ e ∷ [])
  IsValidHistory-sent all valid order =
      IsValidHistory-joined setup stations lane e sent all valid order backlog.next.0 backlog.next.1

  -- It has left the backlog.
  pub IsBacklog-sent : IsBacklog setup stations lane taken None (sent ++ e ∷ [])
  IsBacklog-sent = record {
    kept = ap (map packet_of) (append-nil (sent ++ e ∷ [])) ∙ backlog.kept;
    next = tt;
  }

module _ (laws : KeyLaws) (value_is : ValueIs) (setup : Setup) (table : IsLevelTable setup.levels)
    (stations : ℕ) (taken : List Packet) (p : Packet) (sent : List Entry)
    (listed : p.station.0 < stations)
    (backlog : IsBacklog setup stations (lane_of setup.lanes p.station.0) taken None sent) where
  -- the packet's entry
  abbrev e : Entry
  e = entry_of setup taken p

  -- its lane
  abbrev lane : ℕ
  lane = lane_of setup.lanes p.station.0

  -- the backlog, one packet on, where this waits
  abbrev Holds : Option Entry → Type 0
  Holds waiting = IsBacklog setup stations lane (taken ++ p ∷ []) waiting sent

  -- nothing waits, so the lane sent all that it kept
  holds : HoldsKept sent taken
  holds = ap (map packet_of) (sym (append-nil sent)) ∙ backlog.kept

  -- The entry of a kept packet is the right next one.
  IsBacklog-kept : is_kept taken p ≡ true → Holds (Some e)
  IsBacklog-kept is =
      let entry : IsEntryOf setup taken (record { 0 = lane }) p e = record {
        same_packet = refl;
        lane_is = refl;
        kept = is;
        fresh = refl;
        value = value_is setup (of_station p.station.0 (taken ++ p ∷ [])) table;
      } in
      let right : IsEntryAfter setup stations sent e =
      IsEntryAfter-from_packets laws sent taken holds setup stations (record { 0 = lane }) e listed
      refl entry in
      record {
        kept = HoldsKept-push laws sent taken holds e is;
        next = (refl, right);
      }

  -- A repeat leaves the backlog empty.
  IsBacklog-repeat : is_kept taken p ≡ false → Holds None
  IsBacklog-repeat is = record {
    kept =
        ap (map packet_of) (append-nil sent)
        ∙ HoldsKept-repeat laws.leaves sent taken p holds is;
    next = tt;
  }

  -- The lane keeps its backlog, one packet on.
  pub IsBacklog-taken : Holds (waiting_after setup taken p)
  IsBacklog-taken =
      elim (cases_Bool (is_kept taken p)) [
        | inl is ↦ subst (λ b. Holds (if b then Some e else None)) (sym is) (IsBacklog-kept is)
        | inr is ↦ subst (λ b. Holds (if b then Some e else None)) (sym is) (IsBacklog-repeat is)
      ]
