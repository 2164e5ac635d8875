-- A packet as bytes (the project's own format, version 1). All numbers stand with the highest byte
-- first.
use Rattle.std.specs.Prelude.{◌≡◌, ℕ, ℤ, List, [], ◌∷◌, ◌++◌, length, FitsSigned}
use Rattle.std.specs.List.{flat_map}
use Rattle.std.specs.Int.{w32, cast_unsigned}
use Rattle.byteorder.specs.Endian.{big_bytes}
use Rattle.plum_base.specs.declared.sites.StationSite.{StationSite}
use Rattle.plum_base.specs.declared.wave.Sample.{Sample}
use Rattle.plum_base.specs.declared.numbers.Key.{Key}
use Rattle.plum_base.specs.declared.packet.Packet.{Packet}
use Rattle.plum_base.specs.Sites.{HasCode}
use Rattle.plum_packet.specs.Capture.{AreBytes}
use Rattle.plum_packet.specs.Body.{IsPacket}

-- the header: `PL`, version 1, no flags, the station's code, the key, how many samples follow
abbrev pub header_of : ℕ → Key → ℕ → List ℕ
header_of code key count = 80 ∷ 76 ∷ 1 ∷ 0 ∷ []
    ++ big_bytes 2 code
    ++ big_bytes 2 key.boot
    ++ big_bytes 4 key.number
    ++ big_bytes 2 count

-- a signed number in four bytes, as two's complement
abbrev pub signed_bytes : ℤ → List ℕ
signed_bytes z = big_bytes 4 (cast_unsigned w32 z)

-- a sample: x, y and z
abbrev pub sample_bytes : Sample → List ℕ
sample_bytes s = signed_bytes s.x ++ signed_bytes s.y ++ signed_bytes s.z

-- a packet of the station with this code
abbrev pub body_of : ℕ → Packet → List ℕ
body_of code packet =
    header_of code packet.key (length packet.wave) ++ flat_map sample_bytes packet.wave

-- The bytes are this packet's, behind the code of its station.
abbrev pub IsSpelled : List StationSite → Packet → List ℕ → Type 0
IsSpelled stations packet bytes =
    (code : ℕ) × HasCode stations packet.station.0 code × (bytes ≡ body_of code packet)

-- Each component has 32 bits.
pub record FitsSample (s : Sample) : Type 0 where
  pub x : FitsSigned w32 s.x
  pub y : FitsSigned w32 s.y
  pub z : FitsSigned w32 s.z

-- No other body is this packet.
abbrev pub IsOnlyBody : List StationSite → Packet → List ℕ → Type 0
IsOnlyBody stations packet bytes =
    (body : List ℕ) → AreBytes body → IsPacket stations body packet → body ≡ bytes

-- As a packet, the bytes are no other one.
abbrev pub IsOnlyPacket : List StationSite → Packet → List ℕ → Type 0
IsOnlyPacket stations packet bytes =
    (other : Packet) → IsPacket stations bytes other → other ≡ packet
