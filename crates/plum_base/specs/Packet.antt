-- What a packet's numbers hold, and whose packets they are.
use Rattle.std.specs.Prelude.{ℕ, ◌^◌, ◌<◌, List, All}
use Rattle.plum_base.specs.declared.numbers.Key.{Key}
use Rattle.plum_base.specs.declared.packet.Packet.{Packet}

-- A boot has 16 bits and a number 32.
abbrev pub FitsKey : Key → Type 0
FitsKey key = (key.boot < 2 ^ 16) × (key.number < 2 ^ 32)

-- All packets are of listed stations, where there are this many.
abbrev pub AreListed : ℕ → List Packet → Type 0
AreListed stations packets = All (λ p. p.station.0 < stations) packets
