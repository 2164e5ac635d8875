-- How far a reader of records has come.
use Rattle.std.specs.Prelude.{◌≡◌, ℕ, ◌+◌, ◌-◌, List, [], ◌∷◌, ◌++◌, length, Option, Some}
use Rattle.plum_packet.specs.declared.records.Progress.{Progress}
use Rattle.plum_packet.specs.declared.records.Progress.TheVariants.{Open, Ended, Over}
use Rattle.plum_packet.specs.Capture.{AreRecords, IsCapture}

-- A reader that gives at most `limit` records: how many it gave, the body of the last of them
-- (empty before the first), the bytes that it took of what it has not given, and whether it has met
-- the end of the input or a record too many.
pub record RecordsView : Type 0 where
  pub limit : ℕ
  pub given : ℕ
  pub last : List ℕ
  pub ahead : List ℕ
  pub progress : Progress

abbrev pub tail_in : Progress → List ℕ → ℕ
tail_in Ended ahead = length ahead
tail_in Open ahead = 0
tail_in Over ahead = 0

-- the length of the tail, known at the end of the input
abbrev pub tail_of : RecordsView → ℕ
tail_of reader = tail_in reader.progress reader.ahead

abbrev pub left_in : Progress → ℕ → ℕ
left_in Open records = records + 1
left_in Ended records = 0
left_in Over records = 0

-- how many segments a reader may give still: each but the last takes a record
abbrev pub segments_left : RecordsView → ℕ
segments_left reader = left_in reader.progress (reader.limit - reader.given)

-- No further record was given.
abbrev pub GivesNoMore : RecordsView → RecordsView → Type 0
GivesNoMore old new = (new.given ≡ old.given) × (new.last ≡ old.last)

-- Of the capture, the records of these bodies were given, and this is left of the input. A host
-- that does not tell what is left stands nowhere.
pub record StandsAt (capture : List ℕ) (bodies : List (List ℕ)) (reader : RecordsView)
    (left : Option (List ℕ)) : Type 0 where
  pub rest : List ℕ
  pub told : left ≡ Some rest
  pub records : AreRecords capture bodies (reader.ahead ++ rest)
  pub count : reader.given ≡ length bodies

-- A step of a reader, with what was left before and after it: one record more was given, and it is
-- the last now.
abbrev pub GivesRecord : RecordsView → Option (List ℕ) → RecordsView → Option (List ℕ) → Type 0
GivesRecord old left new after = (capture : List ℕ) (bodies : List (List ℕ))
    → StandsAt capture bodies old left → StandsAt capture (bodies ++ new.last ∷ []) new after

-- In this step no record more was given, and no byte was lost.
abbrev pub GoesOn : RecordsView → Option (List ℕ) → RecordsView → Option (List ℕ) → Type 0
GoesOn old left new after = (capture : List ℕ) (bodies : List (List ℕ))
    → StandsAt capture bodies old left → StandsAt capture bodies new after

-- In this step the input ended: all records were given before, what the reader has ahead is the
-- tail, and nothing is left.
abbrev pub Ends : RecordsView → Option (List ℕ) → RecordsView → Option (List ℕ) → Type 0
Ends old left new after = (capture : List ℕ) (bodies : List (List ℕ))
    → StandsAt capture bodies old left → IsCapture capture bodies new.ahead × (after ≡ Some [])
