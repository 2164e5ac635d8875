-- Lines: their fields, and the bytes that spell them (the project's own format). The sums of
-- counts, that positions begin at 1, and that the class beside a value is that of the value, are no
-- part of it: they hold of the texts.
use Rattle.std.specs.Prelude.{◌≡◌, ℕ, List, [], ◌∷◌, codes, decimal}
use Rattle.plum_base.specs.Name.{IsName}
use Rattle.plum_base.specs.Packet.{FitsKey}
use Rattle.plum_text.specs.declared.lines.JournalLine.{JournalLine}
use Rattle.plum_text.specs.declared.lines.OutLine.{OutLine}
use Rattle.plum_text.specs.declared.lines.OutLine.TheVariants.{Mark, Refused, Reading, Answer}
use Rattle.plum_text.specs.declared.lines.OutLine.TheVariants.{Alert, Tail, Totals}
use Rattle.plum_text.specs.declared.lines.PlainLine.{PlainLine}
use Rattle.plum_text.specs.declared.lines.PlainLine.TheVariants.{Value, Counts, Drill}
use Rattle.plum_text.specs.Fields.{line, value_text, class_or_none_text, run_text, fault_fields}
use Rattle.plum_text.specs.Fields.{alert_fields, Fits, FitsValue, FitsFault}

-- E n segment station boot number run value
abbrev pub journal_fields : JournalLine → List (List ℕ)
journal_fields l = decimal l.n ∷ decimal l.segment ∷ decimal l.station ∷ decimal l.key.boot
    ∷ decimal l.key.number ∷ run_text l.fresh ∷ value_text l.value ∷ []

-- the bytes of a journal line
abbrev pub journal_line : JournalLine → List ℕ
journal_line l = line (codes "E") (journal_fields l)

-- Each number fits its field's type.
pub record FitsJournal (l : JournalLine) : Type 0 where
  pub n : Fits 32 l.n
  pub segment : Fits 32 l.segment
  pub station : Fits 16 l.station
  pub key : FitsKey l.key
  pub value : FitsValue l.value

-- the letter of an output line
abbrev pub kind_of : OutLine → List ℕ
kind_of (Mark m bodies kept repeats refused) = codes "M"
kind_of (Refused number fault) = codes "X"
kind_of (Reading m area front) = codes "R"
kind_of (Answer m target value class) = codes "P"
kind_of (Alert m area alert) = codes "A"
kind_of (Tail bytes) = codes "T"
kind_of (Totals segments bodies kept repeats refused) = codes "Z"

-- M m bodies kept repeats refused; X record fault; R m area front; P m target value class;
-- A m area raise class, A m area upgrade class, A m area cancel; T bytes;
-- Z segments bodies kept repeats refused
abbrev pub out_fields : OutLine → List (List ℕ)
out_fields (Mark m bodies kept repeats refused) =
    decimal m ∷ decimal bodies ∷ decimal kept ∷ decimal repeats ∷ decimal refused ∷ []
out_fields (Refused number fault) = decimal number ∷ fault_fields fault
out_fields (Reading m area front) = decimal m ∷ area ∷ decimal front ∷ []
out_fields (Answer m target value class) =
    decimal m ∷ target ∷ value_text value ∷ class_or_none_text class ∷ []
out_fields (Alert m area alert) = decimal m ∷ area ∷ alert_fields alert
out_fields (Tail bytes) = decimal bytes ∷ []
out_fields (Totals segments bodies kept repeats refused) =
    decimal segments ∷ decimal bodies ∷ decimal kept ∷ decimal repeats ∷ decimal refused ∷ []

-- the bytes of an output line
abbrev pub out_line : OutLine → List ℕ
out_line l = line (kind_of l) (out_fields l)

-- Each number fits its field's type, and each name is one.
abbrev pub FitsOut : OutLine → Type 0
FitsOut (Mark m bodies kept repeats refused) =
    Fits 32 m × Fits 32 bodies × Fits 32 kept × Fits 32 repeats × Fits 32 refused
FitsOut (Refused number fault) = Fits 32 number × FitsFault fault
FitsOut (Reading m area front) = Fits 32 m × IsName area × Fits 64 front
FitsOut (Answer m target value class) = Fits 32 m × IsName target × FitsValue value
FitsOut (Alert m area alert) = Fits 32 m × IsName area
FitsOut (Tail bytes) = Fits 32 bytes
FitsOut (Totals segments bodies kept repeats refused) =
    Fits 32 segments × Fits 32 bodies × Fits 32 kept × Fits 32 repeats × Fits 32 refused

-- These bytes are the line of the journal that has these fields.
pub record IsJournalLine (l : JournalLine) (bytes : List ℕ) : Type 0 where
  pub fits : FitsJournal l
  pub spelled : bytes ≡ journal_line l

-- These bytes are the line of the output that has these fields.
pub record IsOutLine (l : OutLine) (bytes : List ℕ) : Type 0 where
  pub fits : FitsOut l
  pub spelled : bytes ≡ out_line l

-- V boot number run value; Y kept repeats; drill seed stations seconds
abbrev pub plain_line : PlainLine → List ℕ
plain_line (Value key fresh value) = line (codes "V")
    (decimal key.boot ∷ decimal key.number ∷ run_text fresh ∷ value_text value ∷ [])
plain_line (Counts kept repeats) = line (codes "Y") (decimal kept ∷ decimal repeats ∷ [])
plain_line (Drill seed stations seconds) = line (codes "drill")
    (decimal seed ∷ decimal stations ∷ decimal seconds ∷ [])
