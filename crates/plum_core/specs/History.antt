-- Histories: the entries of kept packets, in order (the project's own).
use Rattle.std.specs.Prelude.{◌≡◌, ◌≢◌, ℕ, ◌<◌, true, ◌==◌, List, [], ◌∷◌, ◌++◌, map, filter}
use Rattle.std.specs.Prelude.{AllPairs}
use Rattle.plum_base.specs.declared.entry.Entry.{Entry}
use Rattle.plum_base.specs.declared.packet.Packet.{Packet}
use Rattle.plum_base.specs.declared.setup.Setup.{Setup}
use Rattle.plum_base.specs.Lane.{lane_of}
use Rattle.plum_seq.specs.Keys.{of_station, is_kept, kept, is_fresh}
use Rattle.plum_engine.specs.Engine.{IsValueOf, value_of}

-- the packet of an entry
abbrev pub packet_of : Entry → Packet
packet_of e = record { station = e.station; key = e.key; wave = e.wave }

-- the packets of a station in a history
abbrev pub packets_of : ℕ → List Entry → List Packet
packets_of station history = of_station station (map packet_of history)

-- The entry is correct, given those before it, where there are this many stations.
pub record IsEntryAfter (setup : Setup) (stations : ℕ) (earlier : List Entry) (e : Entry)
    : Type 0 where
  pub listed : e.station.0 < stations
  pub lane : e.lane.0 ≡ lane_of setup.lanes e.station.0
  pub kept : is_kept (map packet_of earlier) (packet_of e) ≡ true
  pub fresh : e.fresh ≡ is_fresh (map packet_of earlier) (packet_of e)
  pub value : IsValueOf setup (packets_of e.station.0 (earlier ++ e ∷ [])) e.value

-- Each entry is correct, given those before it.
abbrev pub IsValidHistory : Setup → ℕ → List Entry → Type 0
IsValidHistory setup stations history =
    (earlier : List Entry) (e : Entry) (later : List Entry)
    → history ≡ earlier ++ e ∷ later → IsEntryAfter setup stations earlier e

-- the entry of a packet that is kept after these
abbrev pub entry_of : Setup → List Packet → Packet → Entry
entry_of setup earlier p = record {
  station = p.station;
  lane = record { 0 = lane_of setup.lanes p.station.0 };
  key = p.key;
  fresh = is_fresh earlier p;
  wave = p.wave;
  value = value_of setup (of_station p.station.0 (earlier ++ p ∷ []));
}

-- the entries of a lane, in order
abbrev pub entries_of_lane : ℕ → List Entry → List Entry
entries_of_lane lane history = filter (λ e. e.lane.0 == lane) history

-- The history holds exactly the kept packets, each once, in file order.
abbrev pub HoldsKept : List Entry → List Packet → Type 0
HoldsKept history packets = map packet_of history ≡ kept packets

-- No station has two entries of one key.
abbrev pub IsEachOnce : List Entry → Type 0
IsEachOnce history = AllPairs (λ a b. a.station ≡ b.station → a.key ≢ b.key) history
