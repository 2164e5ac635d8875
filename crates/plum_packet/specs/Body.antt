-- From a record's body to a packet (the project's own format, version 1). All numbers stand with
-- the highest byte first.
use Rattle.std.specs.Prelude.{◌≡◌, ◌≢◌, ℕ, ◌+◌, ◌*◌, ◌<◌, ◌⊎◌, ℤ, List, [], ◌∷◌, length, take, drop}
use Rattle.std.specs.Prelude.{slice_get, Some}
use Rattle.byteorder.specs.Endian.{big_number, twos_complement}
use Rattle.plum_base.specs.declared.sites.StationSite.{StationSite}
use Rattle.plum_base.specs.declared.wave.Sample.{Sample}
use Rattle.plum_base.specs.declared.numbers.Key.{Key}
use Rattle.plum_base.specs.declared.packet.Packet.{Packet}
use Rattle.plum_base.specs.declared.packet.PacketFault.{PacketFault}
use Rattle.plum_base.specs.declared.packet.PacketFault.TheVariants as faults
use Rattle.plum_base.specs.Sites.{HasCode, HasNoCode}
use Rattle.plum_packet.specs.declared.body.Head.{Head}

-- how many bytes stand before the samples
abbrev pub HEADER : ℕ
HEADER = 14

-- how many bytes a sample has
abbrev pub SAMPLE : ℕ
SAMPLE = 12

-- how many samples a packet has at most
abbrev pub MOST_SAMPLES : ℕ
MOST_SAMPLES = 200

-- the number in `size` bytes from `offset` on
abbrev pub number_at : ℕ → ℕ → List ℕ → ℕ
number_at offset size body = big_number size (drop offset body)

-- the same of four bytes, as two's complement
abbrev pub signed_at : ℕ → List ℕ → ℤ
signed_at offset body = twos_complement 4 (number_at offset 4 body)

-- the fields of the header
abbrev pub version_of : List ℕ → ℕ
version_of body = number_at 2 1 body

abbrev pub flags_of : List ℕ → ℕ
flags_of body = number_at 3 1 body

abbrev pub code_of : List ℕ → ℕ
code_of body = number_at 4 2 body

abbrev pub key_of : List ℕ → Key
key_of body = record { boot = number_at 6 2 body; number = number_at 8 4 body }

abbrev pub count_of : List ℕ → ℕ
count_of body = number_at 12 2 body

-- the i-th sample, from 0: x, y and z of four bytes each
abbrev pub sample_at : List ℕ → ℕ → Sample
sample_at body i = record {
  x = signed_at (HEADER + SAMPLE * i) body;
  y = signed_at (HEADER + SAMPLE * i + 4) body;
  z = signed_at (HEADER + SAMPLE * i + 8) body;
}

-- These are the samples of the body.
pub record AreSamples (body : List ℕ) (samples : List Sample) : Type 0 where
  pub count : length samples ≡ count_of body
  pub each : (i : ℕ) → i < count_of body → slice_get samples i ≡ Some (sample_at body i)

-- what makes each fault apply, taken alone
abbrev pub Applies : List StationSite → List ℕ → PacketFault → Type 0
Applies stations body faults.Short = length body < HEADER
Applies stations body faults.Magic = take 2 body ≢ 80 ∷ 76 ∷ []
Applies stations body (faults.Version v) = (v ≡ version_of body) × (v ≢ 1)
Applies stations body (faults.Flags f) = (f ≡ flags_of body) × (f ≢ 0)
Applies stations body (faults.Station code) =
    (code ≡ code_of body) × HasNoCode stations code
Applies stations body (faults.Count n) = (n ≡ count_of body) × ((n ≡ 0) ⊎ (MOST_SAMPLES < n))
Applies stations body (faults.Length expected found) =
    (expected ≡ HEADER + SAMPLE * count_of body) × (found ≡ length body) × (expected ≢ found)

-- the order of the faults: P1 to P7
abbrev pub order_of : PacketFault → ℕ
order_of faults.Short = 1
order_of faults.Magic = 2
order_of (faults.Version v) = 3
order_of (faults.Flags f) = 4
order_of (faults.Station code) = 5
order_of (faults.Count n) = 6
order_of (faults.Length expected found) = 7

-- The fault applies, and none before it does.
pub record IsFirstFault (stations : List StationSite) (body : List ℕ)
    (fault : PacketFault) : Type 0 where
  pub applies : Applies stations body fault
  pub first : (other : PacketFault) → order_of other < order_of fault
      → ¬ Applies stations body other

abbrev pub HasNoFault : List StationSite → List ℕ → Type 0
HasNoFault stations body = (fault : PacketFault) → ¬ Applies stations body fault

-- The body is a packet with this head.
pub record IsHead (stations : List StationSite) (body : List ℕ) (head : Head) : Type 0 where
  pub lawful : HasNoFault stations body
  pub station : HasCode stations head.station.0 (code_of body)
  pub key : head.key ≡ key_of body
  pub count : head.count ≡ count_of body

-- The body is this packet.
pub record IsPacket (stations : List StationSite) (body : List ℕ) (packet : Packet) : Type 0 where
  pub lawful : HasNoFault stations body
  pub station : HasCode stations packet.station.0 (code_of body)
  pub key : packet.key ≡ key_of body
  pub samples : AreSamples body packet.wave
