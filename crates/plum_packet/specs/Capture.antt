-- Captures: records one after the other (the project's own format).
use Rattle.std.specs.Prelude.{◌≡◌, ℕ, ◌+◌, ◌<◌, ◌≤◌, List, [], ◌∷◌, ◌++◌, length}
use Rattle.std.specs.List.{flat_map, AllByRecursion}
use Rattle.byteorder.specs.Endian.{big_bytes}

-- how many bytes a record's length takes
abbrev pub LENGTH : ℕ
LENGTH = 2

-- how long a body is at most: what two bytes can say
abbrev pub LONGEST_BODY : ℕ
LONGEST_BODY = 65535

-- and a record
abbrev pub LONGEST_RECORD : ℕ
LONGEST_RECORD = LENGTH + LONGEST_BODY

-- a record: the length of its body in two bytes, the higher first, and its body
abbrev pub record_of : List ℕ → List ℕ
record_of body = big_bytes LENGTH (length body) ++ body

-- `MK`, the body of a mark
abbrev pub mark_body : List ℕ
mark_body = 77 ∷ 75 ∷ []

-- no longer than two bytes can say
abbrev pub IsBody : List ℕ → Type 0
IsBody body = length body ≤ LONGEST_BODY

-- A whole record stands at the start.
abbrev pub HasRecord : List ℕ → Type 0
HasRecord bytes =
    (body : List ℕ) × (more : List ℕ) × IsBody body × (bytes ≡ record_of body ++ more)

-- The bytes are the records of these bodies, in order, and then a rest.
pub record AreRecords (bytes : List ℕ) (bodies : List (List ℕ)) (rest : List ℕ) : Type 0 where
  pub spelled : bytes ≡ flat_map record_of bodies ++ rest
  pub lengths : AllByRecursion IsBody bodies

-- They are that, and the rest does not start with a whole record.
pub record IsCapture (bytes : List ℕ) (bodies : List (List ℕ)) (rest : List ℕ) : Type 0 where
  pub records : AreRecords bytes bodies rest
  pub no_more : ¬ HasRecord rest

-- each is a byte
abbrev pub AreBytes : List ℕ → Type 0
AreBytes bytes = AllByRecursion (λ b. b < 256) bytes
