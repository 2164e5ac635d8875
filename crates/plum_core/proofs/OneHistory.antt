-- A history of the kept packets is one: its packets tell its entries.
use Rattle.std.proofs.Common.{◌≡◌, ℕ, Bool, List, [], ◌∷◌, ◌++◌, map, Option, refl, sym, ap, subst}
use Rattle.std.proofs.Common.{◌∙◌, append_assoc}
use Rattle.std.proofs.lemmas.List.{map-append}
use Rattle.plum_base.specs.declared.entry.Entry.{Entry}
use Rattle.plum_base.specs.declared.numbers.LaneNo.{LaneNo}
use Rattle.plum_base.specs.declared.numbers.Tenths.{Tenths}
use Rattle.plum_base.specs.declared.packet.Packet.{Packet}
use Rattle.plum_base.specs.declared.setup.Setup.{Setup}
use Rattle.plum_base.specs.Lane.{lane_of}
use Rattle.plum_seq.specs.Keys.{of_station, kept_after, is_fresh}
use Rattle.plum_seq.specs.Laws.{KeptInParts}
use Rattle.plum_engine.specs.Engine.{OneValue, value_of}
use Rattle.plum_core.specs.History.{packet_of, packets_of, IsEntryAfter, IsValidHistory}
use Rattle.plum_core.specs.Laws.{HistoryBegins}

module _ (one : OneValue) (setup : Setup) (stations : ℕ) where
  -- Behind the same entries a packet has one entry.
  same_entry : (earlier : List Entry) (e f : Entry) → packet_of f ≡ packet_of e
      → IsEntryAfter setup stations earlier e → IsEntryAfter setup stations earlier f → f ≡ e
  same_entry earlier e f same is other =
      let number : ℕ → LaneNo = λ n. record { 0 = n } in
      let build : LaneNo → Packet → Bool → Option Tenths → Entry = λ lane p fresh value. record {
        station = p.station;
        lane = lane;
        key = p.key;
        fresh = fresh;
        wave = p.wave;
        value = value;
      } in
      let before = map packet_of earlier in
      let lane : f.lane ≡ e.lane =
      ap number (other.lane ∙ ap (λ p. lane_of setup.lanes p.station.0) same ∙ sym is.lane) in
      let fresh : f.fresh ≡ e.fresh = other.fresh ∙ ap (is_fresh before) same ∙ sym is.fresh in
      let own : packets_of f.station.0 (earlier ++ f ∷ [])
      ≡ packets_of e.station.0 (earlier ++ e ∷ []) =
      ap (of_station f.station.0) (map-append packet_of earlier (f ∷ []))
      ∙ ap (λ (p : Packet). of_station p.station.0 (before ++ p ∷ [])) same
      ∙ sym (ap (of_station e.station.0) (map-append packet_of earlier (e ∷ []))) in
      let value : f.value ≡ e.value =
      one setup _ f.value other.value ∙ ap (value_of setup) own
      ∙ sym (one setup _ e.value is.value) in
      ap (λ l. build l (packet_of f) f.fresh f.value) lane
      ∙ ap (λ (p : Packet). build e.lane p f.fresh f.value) same
      ∙ ap (λ b. build e.lane (packet_of e) b f.value) fresh
      ∙ ap (build e.lane (packet_of e) e.fresh) value

  -- Where the packets of one go on behind those of another, so do the entries.
  goes_on : (earlier front whole : List Entry) (rest : List Packet)
      → IsValidHistory setup stations (earlier ++ front)
      → IsValidHistory setup stations (earlier ++ whole)
      → map packet_of whole ≡ map packet_of front ++ rest
      → (more : List Entry) × (whole ≡ front ++ more)
  goes_on earlier [] whole rest some all is = (whole, refl)
  goes_on earlier (e ∷ front) [] rest some all is = absurd cc
  goes_on earlier (e ∷ front) (f ∷ whole) rest some all is =
      let first : packet_of f ≡ packet_of e = cc in
      let later : map packet_of whole ≡ map packet_of front ++ rest = cc in
      let same = same_entry earlier e f first (some earlier e front refl)
      (all earlier f whole refl) in
      let some_on = subst (IsValidHistory setup stations)
      (sym (append_assoc earlier (e ∷ []) front)) some in
      let all_on = subst (IsValidHistory setup stations)
      (ap (λ g. earlier ++ g ∷ whole) same ∙ sym (append_assoc earlier (e ∷ []) whole)) all in
      let more = goes_on (earlier ++ e ∷ []) front whole rest some_on all_on later in
      let joined : f ∷ whole ≡ e ∷ (front ++ more.0) = cc (same, more.1) in
      (more.0, joined)

pub history_begins : KeptInParts → OneValue → HistoryBegins
history_begins parts one setup stations front whole packets more some holds all holds_all =
    goes_on one setup stations [] front whole (kept_after packets more) some all
    (holds_all ∙ parts [] packets more ∙ ap (λ l. l ++ kept_after packets more) (sym holds))
