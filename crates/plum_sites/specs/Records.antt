-- The records of a file, as `csv` reads them.
use Rattle.std.specs.Prelude.{◌≡◌, ◌≤◌, ◌⊎◌, ℕ, List, [], ◌++◌, length}
use Rattle.csv.specs.Reading.{AreRecords, default_config, strip_bom}
use Rattle.csv.specs.declared.parser.State.TheVariants as st

-- these are the records of the bytes, behind a byte order mark where there is one
abbrev pub AreRecordsOf : List ℕ → List (List (List ℕ)) → Type 0
AreRecordsOf bytes records = AreRecords default_config st.StartRecord (strip_bom bytes) records

-- these are the first records of the bytes: as many as are wanted, or all where there are fewer
abbrev pub AreFirstRecordsOf : List ℕ → ℕ → List (List (List ℕ)) → Type 0
AreFirstRecordsOf bytes wanted first =
    (rest : List (List (List ℕ))) × AreRecordsOf bytes (first ++ rest)
    × ((rest ≡ []) ⊎ (wanted ≤ length first)) × (length first ≤ wanted)
