-- The stages of the filter, as the setup file has them (the project's own format).
use Rattle.std.specs.Prelude.{ℕ, ℤ, List, codes, Result, Ok, Err}
use Rattle.std.specs.Prelude.{if◌then◌else◌}
use Rattle.std.specs.Str.{bytes_eq}
use Rattle.toml.specs.Data.{Members, as_str, as_table}
use Rattle.plum_base.specs.declared.cascade.Stage.{Stage}
use Rattle.plum_base.specs.declared.cascade.Rounding.{Rounding}
use Rattle.plum_base.specs.declared.cascade.Rounding.TheVariants.{Floor, Nearest}
use Rattle.plum_base.specs.Cascade.{GREATEST_COEFFICIENT, STAGE_Q, MOST_STAGES}
use Rattle.plum_table.specs.declared.fault.Field.TheVariants as field
use Rattle.plum_table.specs.declared.fault.SetupKey.{SetupKey}
use Rattle.plum_table.specs.declared.fault.SetupFault.{SetupFault}
use Rattle.plum_table.specs.declared.fault.SetupFault.TheVariants.{Range}
use Rattle.plum_table.specs.Keys.{setup_key, stage_key}
use Rattle.plum_table.specs.Kinds.{◌>>=◌, value_at, integer_up_to, natural_at, array_at}
use Rattle.plum_table.specs.Kinds.{walk_from}

-- a coefficient in units of 2^-q, in its range
abbrev pub coefficient_at : Members → SetupKey → Result ℤ SetupFault
coefficient_at stage key = integer_up_to stage key GREATEST_COEFFICIENT

-- the rounding that has this name
abbrev pub rounding_of : SetupKey → List ℕ → Result Rounding SetupFault
rounding_of key name =
    if bytes_eq name (codes "floor") then Ok Floor else
    if bytes_eq name (codes "nearest") then Ok Nearest else Err (Range key)

-- the stage with this number, from 0
abbrev pub stage_of : ℕ → Members → Result Stage SetupFault
stage_of n stage =
    coefficient_at stage (stage_key field.B0 n) >>= (λ b0.
    coefficient_at stage (stage_key field.B1 n) >>= (λ b1.
    coefficient_at stage (stage_key field.B2 n) >>= (λ b2.
    coefficient_at stage (stage_key field.A1 n) >>= (λ a1.
    coefficient_at stage (stage_key field.A2 n) >>= (λ a2.
    natural_at stage (stage_key field.Q n) STAGE_Q >>= (λ q.
    value_at as_str stage (stage_key field.Round n)
    >>= rounding_of (stage_key field.Round n) >>= (λ round.
    Ok (record { b0 = b0; b1 = b1; b2 = b2; a1 = a1; a2 = a2; q = q; round = round }))))))))

-- one stage or more, not too many, in the order of the file
abbrev pub stages_of : Members → Result (List Stage) SetupFault
stages_of file =
    array_at as_table file (setup_key field.Stages) MOST_STAGES >>= walk_from stage_of 0
