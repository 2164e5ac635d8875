-- Stations at work.
use Rattle.std.specs.Prelude.{◌≡◌, ℕ, ◌<◌, ◌==◌, true, if◌then◌else◌, List, [], ◌∷◌, ◌++◌}
use Rattle.std.specs.Prelude.{length, slice_index_or, Option, Some, None}
use Rattle.plum_base.specs.declared.entry.Entry.{Entry}
use Rattle.plum_base.specs.declared.lane.Took.{Took}
use Rattle.plum_base.specs.declared.lane.Took.TheVariants as tooks
use Rattle.plum_base.specs.declared.packet.Packet.{Packet}
use Rattle.plum_base.specs.declared.numbers.LaneNo.{LaneNo}
use Rattle.plum_base.specs.declared.setup.Setup.{Setup}
use Rattle.plum_engine.specs.Engine.{StandsFor, IsValueOf}
use Rattle.plum_seq.specs.Keys.{of_station, keys_of, is_kept, is_fresh, with_fresh, greatest_key}
use Rattle.plum_seq.specs.Verdicts.{IsVerdict}
use Rattle.plum_seq.specs.declared.seq.Verdict.TheVariants as verdicts
use Rattle.plum_core.specs.declared.network.Network.{Network}
use Rattle.plum_core.specs.declared.station.Station.{Station}
use Rattle.plum_core.specs.declared.station.Taken.{Taken}
use Rattle.plum_core.specs.declared.station.Taken.TheVariants.{Kept, Repeat}
use Rattle.plum_core.specs.History.{packet_of, IsValidHistory, HoldsKept}

-- Station s of this setup was given its packets of these since it was made.
pub record Stands (station : Station) (setup : Setup) (s : ℕ) (packets : List Packet) : Type 0 where
  pub keys : station.keys ≡ greatest_key (keys_of s packets)
  pub engine : StandsFor station.engine setup (with_fresh (of_station s packets))

-- The entry is that of a kept packet of this lane, which comes after these.
pub record IsEntryOf (setup : Setup) (earlier : List Packet) (lane : LaneNo) (packet : Packet)
    (e : Entry) : Type 0 where
  pub same_packet : packet_of e ≡ packet
  pub lane_is : e.lane ≡ lane
  pub kept : is_kept earlier packet ≡ true
  pub fresh : e.fresh ≡ is_fresh earlier packet
  pub value : IsValueOf setup (of_station packet.station.0 (earlier ++ packet ∷ [])) e.value

-- What is told of a packet after these: ready where it is kept; else a repeat, with the greatest
-- key before it.
abbrev pub IsTold : List Packet → Packet → Took → Type 0
IsTold earlier packet tooks.Ready = is_kept earlier packet ≡ true
IsTold earlier packet (tooks.Repeat last) =
    IsVerdict (keys_of packet.station.0 earlier) packet.key (verdicts.Repeat last)

-- A packet after these gives its entry where it is kept; a repeat tells the greatest key before it.
abbrev pub Gives : Setup → List Packet → LaneNo → Packet → Taken → Type 0
Gives setup earlier lane packet (Repeat last) = IsTold earlier packet (tooks.Repeat last)
Gives setup earlier lane packet (Kept e) = IsEntryOf setup earlier lane packet e

-- what waits in a lane after it: the entry of a kept packet, and nothing after a repeat
abbrev pub waiting_of : Taken → Option Entry
waiting_of (Kept e) = Some e
waiting_of (Repeat last) = None

-- The stations of a network of this setup were given these packets, by the number of the station.
pub record StandFor (network : Network) (setup : Setup) (given : ℕ → List Packet) : Type 0 where
  pub lanes : network.lanes ≡ setup.lanes
  pub each : (s : ℕ) (d : Station) → s < length network.stations.items
      → Stands (slice_index_or network.stations.items s d) setup s (given s)

-- how many lanes its stations are shared among
abbrev pub lanes_of : Network → ℕ
lanes_of network = network.lanes

-- how many stations it has
abbrev pub size_of : Network → ℕ
size_of network = length network.stations.items

-- A network of this setup took these packets since it was made, and gave the entries of this
-- history, which is valid and holds exactly the kept ones.
pub record HasTaken (network : Network) (setup : Setup) (packets : List Packet)
    (history : List Entry) : Type 0 where
  pub stand : StandFor network setup (λ _. packets)
  pub valid : IsValidHistory setup (size_of network) history
  pub holds : HoldsKept history packets

-- The history, one packet more on: the entry of a kept packet joins it.
abbrev pub with_taken : List Entry → Taken → List Entry
with_taken history (Kept e) = history ++ e ∷ []
with_taken history (Repeat last) = history

-- what the stations were given, one more packet on
abbrev pub given_more : (ℕ → List Packet) → Packet → ℕ → List Packet
given_more given p s = if p.station.0 == s then given s ++ p ∷ [] else given s
