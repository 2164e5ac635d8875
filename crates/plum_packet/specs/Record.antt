-- Records that come in pieces.
use Rattle.std.specs.Prelude.{◌≡◌, ℕ, ◌+◌, ⊤, List, ◌++◌, Option, Some, None}
use Rattle.byteorder.specs.Endian.{big_number}
use Rattle.plum_packet.specs.Capture.{LENGTH}

-- where a record that starts with these bytes ends, as the length in its first two bytes says; a
-- byte that has not come is taken as 0
abbrev pub record_end : List ℕ → ℕ
record_end bytes = LENGTH + big_number LENGTH bytes

-- The bytes and what is left of an input are, one behind the other, what they were: what was taken
-- of the input stands at the end of the bytes. A host that does not tell claims nothing.
abbrev pub MovesFront : List ℕ → Option (List ℕ) → List ℕ → Option (List ℕ) → Type 0
MovesFront bytes None longer after = ⊤
MovesFront bytes (Some left) longer after =
    (rest : List ℕ) × (after ≡ Some rest) × (longer ++ rest ≡ bytes ++ left)
