-- What a station gives for a packet, and what the packet leaves alone.
use Rattle.std.proofs.Common.{◌≡◌, ◌≢◌, ℕ, ◌<◌, false, List, [], ◌∷◌, ◌++◌, map, None, sym, ◌∙◌, ap}
use Rattle.std.proofs.Common.{subst, append-nil, ne_eqb}
use Rattle.std.specs.Prelude.{◌==◌}
use Rattle.plum_base.specs.declared.entry.Entry.{Entry}
use Rattle.plum_base.specs.declared.numbers.LaneNo.{LaneNo}
use Rattle.plum_base.specs.declared.packet.Packet.{Packet}
use Rattle.plum_base.specs.declared.setup.Setup.{Setup}
use Rattle.plum_base.specs.Lane.{lane_of}
use Rattle.plum_seq.proofs.Stations.{of_station-other}
use Rattle.plum_core.specs.declared.station.Station.{Station}
use Rattle.plum_core.specs.declared.station.Taken.{Taken}
use Rattle.plum_core.specs.declared.station.Taken.TheVariants.{Kept, Repeat}
use Rattle.plum_core.specs.Facts.{IsBacklog}
use Rattle.plum_core.specs.History.{packet_of, IsEntryAfter, HoldsKept}
use Rattle.plum_core.specs.Station.{Stands, Gives, IsEntryOf, waiting_of}
use Rattle.plum_core.proofs.Joining.{KeyLaws, HoldsKept-more, HoldsKept-repeat}
use Rattle.plum_core.proofs.Joining.{IsEntryAfter-from_packets}
use Rattle.plum_core.proofs.Stations.{Stands-same}

-- Another station's packet changes nothing of what was given to this one.
pub Stands-other : (station : Station) (setup : Setup) (s : ℕ) (packets : List Packet) (p : Packet)
    → p.station.0 ≢ s → Stands station setup s packets → Stands station setup s (packets ++ p ∷ [])
Stands-other station setup s packets p other =
    let is : (p.station.0 == s) ≡ false = ne_eqb p.station.0 s other in
    Stands-same station setup s packets (packets ++ p ∷ []) (sym (of_station-other s packets p is))

module _ (laws : KeyLaws) (setup : Setup) (stations : ℕ) (taken : List Packet) (p : Packet)
    (sent : List Entry) (listed : p.station.0 < stations)
    (backlog : IsBacklog setup stations (lane_of setup.lanes p.station.0) taken None sent) where
  -- the lane of the packet
  abbrev lane : LaneNo
  lane = record { 0 = lane_of setup.lanes p.station.0 }

  -- nothing waits, so the lane sent all that it kept
  holds : HoldsKept sent taken
  holds = ap (map packet_of) (sym (append-nil sent)) ∙ backlog.kept

  -- The entry is the right next one after what the lane sent.
  next : (e : Entry) → IsEntryOf setup taken lane p e → IsEntryAfter setup stations sent e
  next e entry =
      let of_station : packet_of e ≡ p = entry.same_packet in
      let listed_e : e.station.0 < stations =
      subst (λ (q : Packet). q.station.0 < stations) (sym of_station) listed in
      let lane_is : lane.0 ≡ lane_of setup.lanes e.station.0 =
      ap (λ (q : Packet). lane_of setup.lanes q.station.0) (sym of_station) in
      IsEntryAfter-from_packets laws sent taken holds setup stations lane e listed_e lane_is
      (subst (λ (q : Packet). IsEntryOf setup taken lane q e) (sym of_station) entry)

  -- The lane keeps its backlog, one packet on.
  pub IsBacklog-given : (given : Taken) → Gives setup taken lane p given
      → IsBacklog setup stations lane.0 (taken ++ p ∷ []) (waiting_of given) sent
  IsBacklog-given (Kept e) entry = record {
    kept = HoldsKept-more laws setup sent taken p holds e entry;
    next = (ap (λ l. l.0) entry.lane_is, next e entry);
  }
  IsBacklog-given (Repeat last) repeat = record {
    kept =
        ap (map packet_of) (append-nil sent)
        ∙ HoldsKept-repeat laws.leaves sent taken p holds repeat.0;
    next = tt;
  }
