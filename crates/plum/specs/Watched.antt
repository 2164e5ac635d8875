-- A station that is watched, and what became of its packets.
use Rattle.std.specs.Prelude.{◌≡◌, ℕ, ◌+◌, List, ◌∷◌, [], ◌++◌, length, map, Option, Some}
use Rattle.std.specs.Option.{option_to_list}
use Rattle.plum_base.specs.declared.entry.Entry.{Entry}
use Rattle.plum_base.specs.declared.numbers.StationNo.{StationNo}
use Rattle.plum_base.specs.declared.packet.Packet.{Packet}
use Rattle.plum_base.specs.declared.setup.Setup.{Setup}
use Rattle.plum_base.specs.Lane.{lane_of}
use Rattle.plum_core.specs.Facts.{IsInLaneOrder}
use Rattle.plum_core.specs.Station.{Stands}
use Rattle.plum_text.specs.declared.lines.PlainLine.{PlainLine}
use Rattle.plum.specs.declared.watch.Watch.{Watch}
use Rattle.plum.specs.Plain.{packets_of, value_line, IsHistoryOf}

-- how many packets of it came
abbrev pub packets_in : Watch → ℕ
packets_in watch = watch.kept + watch.repeats

-- The watch of a station, where there is one, was given these packets of all stations since it was
-- made: this is the history of those of the station.
pub record HasWatched (watch : Watch) (setup : Setup) (stations : ℕ) (packets : List Packet)
    (history : List Entry) : Type 0 where
  pub lane : (n : StationNo) → watch.number ≡ Some n → watch.lane.0 ≡ lane_of setup.lanes n.0
  pub stands : (n : StationNo) → watch.number ≡ Some n
      → Stands watch.station setup n.0 (packets_of watch.number packets)
  pub history_is : IsHistoryOf setup stations (packets_of watch.number packets) history
  pub in_lane : IsInLaneOrder watch.lane.0 history history
  pub kept : watch.kept ≡ length history
  pub came : packets_in watch ≡ length (packets_of watch.number packets)

-- One packet more was given: it is of the station and kept, with this line, or it has no line.
abbrev pub WatchesOneMore : Watch → Setup → ℕ → List Packet → List Entry → Packet
    → Option PlainLine → Type 0
WatchesOneMore after setup stations packets history packet line = (more : List Entry)
    × HasWatched after setup stations (packets ++ packet ∷ []) (history ++ more)
    × (map value_line more ≡ option_to_list line)
