-- The text of a field as the code holds it.
use Rattle.std.specs.Prelude.{ℕ, ◌≤◌, List, length, decimal, ⊤}
use Rattle.plum_text.specs.declared.spell.Field.{Field}
use Rattle.plum_text.specs.declared.spell.Field.TheVariants.{Number, Text, Value, Class}
use Rattle.plum_text.specs.Fields.{value_text, class_or_none_text}

abbrev pub field_text : Field → List ℕ
field_text (Number n) = decimal n
field_text (Text text) = text.now
field_text (Value value) = value_text value
field_text (Class class) = class_or_none_text class

-- the bytes of the longest field, a number of 64 bits
abbrev pub LONGEST_FIELD : ℕ
LONGEST_FIELD = 20

-- No text is longer than the longest field.
abbrev pub IsShort : Field → Type 0
IsShort (Text text) = length text.now ≤ LONGEST_FIELD
IsShort field = ⊤
