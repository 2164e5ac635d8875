-- What is counted of the bodies of a capture.
use Rattle.std.specs.Prelude.{◌≡◌, ℕ, ◌+◌, ◌<◌, List, length, slice_index_or, Option}
use Rattle.plum_base.specs.declared.numbers.Key.{Key}
use Rattle.plum_seq.specs.Keys.{keys_of, greatest_key, kept}
use Rattle.plum_packet.specs.Segments.{Decoded, packets_in, refused_in}
use Rattle.plum.specs.declared.tally.Tally.{Tally}

-- how many bodies were counted
abbrev pub bodies_in : Tally → ℕ
bodies_in tally = tally.kept + tally.repeats + tally.refused

-- A tally over so many stations was given these bodies, decoded, since it was made.
pub record HasTallied (tally : Tally) (stations : ℕ) (bodies : List Decoded) : Type 0 where
  pub size : length tally.keys.items ≡ stations
  pub keys : (s : ℕ) (d : Option Key) → s < length tally.keys.items
      → slice_index_or tally.keys.items s d ≡ greatest_key (keys_of s (packets_in bodies))
  pub kept : tally.kept ≡ length (kept (packets_in bodies))
  pub packets : tally.kept + tally.repeats ≡ length (packets_in bodies)
  pub refused : tally.refused ≡ length (refused_in bodies)
