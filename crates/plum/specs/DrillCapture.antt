-- The capture of a drill (the project's own): each second a packet of each station, in order, and a
-- mark. Draws are counted from 0 over the whole capture.
use Rattle.std.specs.Prelude.{ℕ, ◌+◌, ◌*◌, ◌%◌, min, ℤ, pos, ◌-ℤ◌, List, ◌++◌, map}
use Rattle.std.specs.List.{flat_map, range_with_len}
use Rattle.plum_base.specs.declared.wave.Sample.{Sample}
use Rattle.plum_base.specs.declared.packet.Packet.{Packet}
use Rattle.plum_packet.specs.Capture.{record_of, mark_body}
use Rattle.plum_packet.specs.Encoding.{body_of}
use Rattle.plum.specs.Draws.{draw}

-- how many samples a packet has
abbrev pub PACKET_SAMPLES : ℕ
PACKET_SAMPLES = 100

-- how many draws a packet takes: three for a sample
abbrev pub PACKET_DRAWS : ℕ
PACKET_DRAWS = 300

-- the greatest component of a second, counted from 0: the shaking grows for a minute
abbrev pub amplitude_in : ℕ → ℕ
amplitude_in second = 100 + 1000 * min second 60

-- the component that draw n gives: from the negative of the amplitude to the amplitude
unfoldable pub component_at : ℕ → ℕ → ℕ → ℤ
component_at seed amplitude n = pos (draw seed n % (2 * amplitude + 1)) -ℤ pos amplitude

-- the sample from draw n on: x, y and z in this order
unfoldable pub sample_at : ℕ → ℕ → ℕ → Sample
sample_at seed amplitude n = record {
  x = component_at seed amplitude n;
  y = component_at seed amplitude (n + 1);
  z = component_at seed amplitude (n + 2);
}

-- so many samples from draw n on
unfoldable pub samples_at : ℕ → ℕ → ℕ → ℕ → List Sample
samples_at seed amplitude n count =
    map (λ k. sample_at seed amplitude (n + 3 * k)) (range_with_len 0 count)

-- the packet of a station, by its position from 0, in a second, from draw n on: boot 1, and the
-- second as its number
abbrev pub packet_at : ℕ → ℕ → ℕ → ℕ → Packet
packet_at seed n second station = record {
  station = record { 0 = station };
  key = record { boot = 1; number = second };
  wave = samples_at seed (amplitude_in second) n PACKET_SAMPLES;
}

-- its record; the code of a station is its position and 1
unfoldable pub packet_record : ℕ → ℕ → ℕ → ℕ → List ℕ
packet_record seed n second station =
    record_of (body_of (station + 1) (packet_at seed n second station))

-- a second from draw n on: the packet of each station, and a mark
unfoldable pub second_at : ℕ → ℕ → ℕ → ℕ → List ℕ
second_at seed n second stations =
    flat_map (λ i. packet_record seed (n + PACKET_DRAWS * i) second i) (range_with_len 0 stations)
    ++ record_of mark_body

-- the capture: second by second
unfoldable pub drill_capture : ℕ → ℕ → ℕ → List ℕ
drill_capture seed stations seconds =
    flat_map (λ t. second_at seed (PACKET_DRAWS * stations * t) t stations)
    (range_with_len 0 seconds)
