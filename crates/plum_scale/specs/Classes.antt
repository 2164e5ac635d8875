-- The classes of the JMA scale (Japan Meteorological Agency), cut from the intensity in tenths. The
-- texts `5-`, `5+`, `6-` and `6+` are the project's own.
use Rattle.std.specs.Prelude.{ℕ, pos, int_lt, if◌then◌else◌, List, [], ◌∷◌, Option, codes}
use Rattle.std.specs.List.{find}
use Rattle.std.specs.Str.{bytes_eq}
use Rattle.plum_base.specs.declared.numbers.Tenths.{Tenths}
use Rattle.plum_base.specs.declared.rules.Class.{Class}
use Rattle.plum_base.specs.declared.rules.Class.TheVariants.{C0, C1, C2, C3, C4, C5Lower, C5Upper}
use Rattle.plum_base.specs.declared.rules.Class.TheVariants.{C6Lower, C6Upper, C7}

-- the class of an intensity in tenths
abbrev pub class_of : Tenths → Class
class_of t =
    if int_lt t.0 (pos 5) then C0 else
    if int_lt t.0 (pos 15) then C1 else
    if int_lt t.0 (pos 25) then C2 else
    if int_lt t.0 (pos 35) then C3 else
    if int_lt t.0 (pos 45) then C4 else
    if int_lt t.0 (pos 50) then C5Lower else
    if int_lt t.0 (pos 55) then C5Upper else
    if int_lt t.0 (pos 60) then C6Lower else
    if int_lt t.0 (pos 65) then C6Upper else C7

-- the text of a class
abbrev pub class_text : Class → List ℕ
class_text C0 = codes "0"
class_text C1 = codes "1"
class_text C2 = codes "2"
class_text C3 = codes "3"
class_text C4 = codes "4"
class_text C5Lower = codes "5-"
class_text C5Upper = codes "5+"
class_text C6Lower = codes "6-"
class_text C6Upper = codes "6+"
class_text C7 = codes "7"

-- the classes of the scale, from the weakest
abbrev pub classes : List Class
classes = C0 ∷ C1 ∷ C2 ∷ C3 ∷ C4 ∷ C5Lower ∷ C5Upper ∷ C6Lower ∷ C6Upper ∷ C7 ∷ []

-- the class that has this text
abbrev pub class_named : List ℕ → Option Class
class_named text = find (λ c. bytes_eq (class_text c) text) classes
