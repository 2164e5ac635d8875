-- The threshold table, as the setup file has it (the project's own format).
use Rattle.std.specs.Prelude.{ℕ, ℤ, pos, nat_abs, List, Option, Some, None, Result, Ok, Err}
use Rattle.std.specs.Prelude.{if◌then◌else◌}
use Rattle.toml.specs.Data.{Members, as_integer}
use Rattle.plum_base.specs.declared.numbers.Tenths.{Tenths}
use Rattle.plum_base.specs.Levels.{LevelsView, GREATEST_AMPLITUDE, MOST_LEVELS, GREATEST_FACTOR}
use Rattle.plum_base.specs.Levels.{starts_at_zero, first_not_rising}
use Rattle.plum_table.specs.declared.fault.Field.TheVariants as field
use Rattle.plum_table.specs.declared.fault.SetupFault.{SetupFault}
use Rattle.plum_table.specs.declared.fault.SetupFault.TheVariants.{Range, Order}
use Rattle.plum_table.specs.Keys.{setup_key}
use Rattle.plum_table.specs.Kinds.{◌>>=◌, integer_up_to, array_at, in_range, walk_from}

-- a threshold, from 0 to the greatest squared amplitude
abbrev pub threshold_of : ℤ → Result ℕ SetupFault
threshold_of z =
    in_range (setup_key field.Thresholds) (pos 0) (pos GREATEST_AMPLITUDE) z
    >>= (λ t. Ok (nat_abs t))

-- the thresholds, if the first is 0
abbrev pub from_zero : List ℕ → Result (List ℕ) SetupFault
from_zero ts =
    if starts_at_zero ts then Ok ts else Err (Range (setup_key field.Thresholds))

-- one threshold or more, not too many, each in its range, and the first 0
abbrev pub thresholds_of : Members → Result (List ℕ) SetupFault
thresholds_of levels =
    array_at as_integer levels (setup_key field.Thresholds) MOST_LEVELS
    >>= walk_from (λ _ z. threshold_of z) 0 >>= from_zero

-- the value, unless the order breaks at a position
abbrev pub unless_at : {A : Type 0} → Option ℕ → A → Result A SetupFault
unless_at None x = Ok x
unless_at (Some n) x = Err (Order n)

-- the table, if each threshold is greater than the one before it
abbrev pub in_order : Tenths → List ℕ → Result LevelsView SetupFault
in_order base ts = unless_at (first_not_rising ts) (record { thresholds = ts; base = base })

-- the base, in its range, and the thresholds in order
abbrev pub levels_of : Members → Result LevelsView SetupFault
levels_of levels =
    integer_up_to levels (setup_key field.Base) GREATEST_FACTOR >>= (λ base.
    thresholds_of levels >>= in_order (record { 0 = base }))
