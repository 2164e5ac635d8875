-- Which packets are kept, and which of these start a new run (the project's own rule of keys).
use Rattle.std.specs.Prelude.{◌≡◌, ◌+◌, Bool, true, false, not, ◌&&◌, ◌||◌, ◌==◌, nat_lt}
use Rattle.std.specs.Prelude.{if◌then◌else◌, ℕ, List, [], ◌∷◌, ◌++◌, map, filter, take, fold}
use Rattle.std.specs.Prelude.{Option, Some, None, All, Any}
use Rattle.std.specs.List.{list_all, enumerate_from}
use Rattle.plum_base.specs.declared.numbers.Key.{Key}
use Rattle.plum_base.specs.declared.packet.Packet.{Packet}
use Rattle.plum_base.specs.declared.wave.Sample.{Sample}

-- by boot, and then by number
abbrev pub is_below : Key → Key → Bool
is_below a b = nat_lt a.boot b.boot || ((a.boot == b.boot) && nat_lt a.number b.number)

-- the packets of a station, in order
abbrev pub of_station : ℕ → List Packet → List Packet
of_station station packets = filter (λ p. p.station.0 == station) packets

-- the keys of a station's packets, in order
abbrev pub keys_of : ℕ → List Packet → List Key
keys_of station packets = map (λ p. p.key) (of_station station packets)

-- The key is greater than each of these.
abbrev pub is_above_all : List Key → Key → Bool
is_above_all keys key = list_all (λ k. is_below k key) keys

-- A packet is kept when its key is greater than the key of every earlier packet of its station.
abbrev pub is_kept : List Packet → Packet → Bool
is_kept earlier p = is_above_all (keys_of p.station.0 earlier) p.key

-- The kept ones of packets that come after earlier ones: those at whose position the packet is
-- kept, given all that come before that position.
unfoldable pub kept_after : List Packet → List Packet → List Packet
kept_after earlier packets =
    map (λ at. at.1)
    (filter (λ at. is_kept (earlier ++ take at.0 packets) at.1) (enumerate_from 0 packets))

-- the kept ones of packets of whatever stations, each by those before it
abbrev pub kept : List Packet → List Packet
kept packets = kept_after [] packets

-- the kept packets of each of these segments, which come after earlier packets
abbrev pub kept_in_segments_after : List Packet → List (List Packet) → List (List Packet)
kept_in_segments_after earlier [] = []
kept_in_segments_after earlier (segment ∷ segments) =
    kept_after earlier segment ∷ kept_in_segments_after (earlier ++ segment) segments

-- the kept packets of each segment; each packet is compared with all earlier ones of its station,
-- in whatever segment
abbrev pub kept_in_segments : List (List Packet) → List (List Packet)
kept_in_segments segments = kept_in_segments_after [] segments

-- the greater of a key and of one that may be none
abbrev pub greater_key : Option Key → Key → Option Key
greater_key None key = Some key
greater_key (Some greatest) key = if is_below greatest key then Some key else Some greatest

-- the greatest of these keys, none where there is none
abbrev pub greatest_key : List Key → Option Key
greatest_key keys = fold greater_key None keys

-- This is the greatest of these keys: one of them, and none of them is above it.
pub record IsGreatestKey (keys : List Key) (key : Key) : Type 0 where
  pub one : Any (λ k. k ≡ key) keys
  pub greatest : All (λ k. is_below key k ≡ false) keys

-- the same boot, and the next number
abbrev pub continues : Key → Key → Bool
continues before key = (key.boot == before.boot) && (key.number == before.number + 1)

-- The key of a kept packet is fresh when there is none before it, or it does not continue the
-- greatest before it.
abbrev pub is_fresh_after : Option Key → Key → Bool
is_fresh_after None key = true
is_fresh_after (Some before) key = not (continues before key)

-- A kept packet is fresh, and so a gap, when it is the first of its station, or does not continue
-- the last kept one, which has the greatest key of its station so far.
abbrev pub is_fresh : List Packet → Packet → Bool
is_fresh earlier p = is_fresh_after (greatest_key (keys_of p.station.0 earlier)) p.key

-- the kept packets, each with whether it is fresh: the samples that a station's engine is given
unfoldable pub with_fresh : List Packet → List (Bool × List Sample)
with_fresh packets =
    map (λ at. (is_fresh (take at.0 packets) at.1, at.1.wave))
    (filter (λ at. is_kept (take at.0 packets) at.1) (enumerate_from 0 packets))
