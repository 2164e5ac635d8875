-- The class of a reading, and what it reaches (the project's own rules).
use Rattle.std.specs.Prelude.{◌≡◌, ◌≤ℤ◌, int_lt, Bool, true, false, not, nat_lt, List, All}
use Rattle.std.specs.Prelude.{Option, Some, None, if◌then◌else◌, option_map, option_to_list}
use Rattle.std.specs.List.{Contains, flat_map, reduce}
use Rattle.plum_base.specs.declared.answers.Reading.{Reading}
use Rattle.plum_base.specs.declared.numbers.Tenths.{Tenths}
use Rattle.plum_base.specs.declared.rules.Class.{Class}
use Rattle.plum_base.specs.Setup.{rank_of}
use Rattle.plum_scale.specs.Classes.{class_of}

-- The greatest of these answers: one of them that none is above; none exactly where all are none.
abbrev pub IsGreatest : List (Option Tenths) → Option Tenths → Type 0
IsGreatest answers None = All (λ a. a ≡ None) answers
IsGreatest answers (Some greatest) = Contains answers (Some greatest)
    × ((t : Tenths) → Contains answers (Some t) → t.0 ≤ℤ greatest.0)

-- those of these that are not none
abbrev pub without_none : {X : Type 0} → List (Option X) → List X
without_none xs = flat_map option_to_list xs

-- the greater of two intensities
abbrev pub greater_of : Tenths → Tenths → Tenths
greater_of t u = if int_lt u.0 t.0 then t else u

-- the greatest of these answers, as a function
abbrev pub greatest_of : List (Option Tenths) → Option Tenths
greatest_of answers = reduce greater_of (without_none answers)

-- The class of a reading is that of its greatest answer; none where every answer is none.
abbrev pub class_of_reading : Reading → Option Class
class_of_reading reading = option_map class_of (greatest_of reading.answers)

-- A class is below another as the scale orders them; none is below every class.
abbrev pub is_below : Option Class → Class → Bool
is_below None class = true
is_below (Some own) class = nat_lt (rank_of own) (rank_of class)

-- A class reaches another when it is that class or above.
abbrev pub reaches : Option Class → Class → Bool
reaches own class = not (is_below own class)

-- None is above no class.
abbrev pub is_above : Option Class → Class → Bool
is_above None class = false
is_above (Some own) class = nat_lt (rank_of class) (rank_of own)
