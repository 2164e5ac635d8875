-- The fields of a line, and how each is spelled (the project's own format).
use Rattle.std.specs.Prelude.{ℕ, Bool, true, false, List, [], ◌∷◌, ◌++◌, Option, Some, None, ⊤}
use Rattle.std.specs.Prelude.{◌≢◌, ◌<◌, ◌^◌, All, IfSome, codes, decimal, FitsSigned}
use Rattle.std.specs.Int.{w16}
use Rattle.std.specs.List.{flat_map}
use Rattle.plum_base.specs.declared.numbers.Tenths.{Tenths}
use Rattle.plum_base.specs.declared.packet.PacketFault.{PacketFault}
use Rattle.plum_base.specs.declared.packet.PacketFault.TheVariants.{Short, Magic, Version, Flags}
use Rattle.plum_base.specs.declared.packet.PacketFault.TheVariants.{Station, Count, Length}
use Rattle.plum_base.specs.declared.rules.Alert.{Alert}
use Rattle.plum_base.specs.declared.rules.Alert.TheVariants.{Raise, Upgrade, Cancel}
use Rattle.plum_base.specs.declared.rules.Class.{Class}
use Rattle.plum_scale.specs.Classes.{class_text}
use Rattle.plum_scale.specs.Tenths.{tenths_text}

-- fields, each behind one space
abbrev pub fields : List (List ℕ) → List ℕ
fields more = flat_map (λ field. 32 ∷ field) more

-- a line of this kind with these fields: one space before each, and a line feed at the end
abbrev pub line : List ℕ → List (List ℕ) → List ℕ
line kind more = kind ++ fields more ++ 10 ∷ []

-- No space stands in the field, so that it ends where the next begins.
abbrev pub HasNoSpace : List ℕ → Type 0
HasNoSpace field = All (λ b. b ≢ 32) field

-- a value, or `-`
abbrev pub value_text : Option Tenths → List ℕ
value_text None = codes "-"
value_text (Some t) = tenths_text t.0

-- a class, or `-`
abbrev pub class_or_none_text : Option Class → List ℕ
class_or_none_text None = codes "-"
class_or_none_text (Some class) = class_text class

-- the run letter: `F` for fresh, `C` for continues
abbrev pub run_text : Bool → List ℕ
run_text true = codes "F"
run_text false = codes "C"

-- a fault: its name, and what it tells
abbrev pub fault_fields : PacketFault → List (List ℕ)
fault_fields Short = codes "P1" ∷ []
fault_fields Magic = codes "P2" ∷ []
fault_fields (Version v) = codes "P3" ∷ decimal v ∷ []
fault_fields (Flags f) = codes "P4" ∷ decimal f ∷ []
fault_fields (Station code) = codes "P5" ∷ decimal code ∷ []
fault_fields (Count n) = codes "P6" ∷ decimal n ∷ []
fault_fields (Length expected found) = codes "P7" ∷ decimal expected ∷ decimal found ∷ []

-- an alert: what it does, and its class
abbrev pub alert_fields : Alert → List (List ℕ)
alert_fields (Raise class) = codes "raise" ∷ class_text class ∷ []
alert_fields (Upgrade class) = codes "upgrade" ∷ class_text class ∷ []
alert_fields Cancel = codes "cancel" ∷ []

-- What the types of fields hold: so many bits ..
abbrev pub Fits : ℕ → ℕ → Type 0
Fits bits n = n < 2 ^ bits

-- .. tenths sixteen of them, with a sign ..
abbrev pub FitsTenths : Tenths → Type 0
FitsTenths t = FitsSigned w16 t.0

-- .. a value none or tenths ..
abbrev pub FitsValue : Option Tenths → Type 0
FitsValue value = IfSome value FitsTenths

-- .. and a fault what it tells.
abbrev pub FitsFault : PacketFault → Type 0
FitsFault Short = ⊤
FitsFault Magic = ⊤
FitsFault (Version v) = Fits 8 v
FitsFault (Flags f) = Fits 8 f
FitsFault (Station code) = Fits 16 code
FitsFault (Count n) = Fits 16 n
FitsFault (Length expected found) = Fits 32 expected × Fits 32 found
