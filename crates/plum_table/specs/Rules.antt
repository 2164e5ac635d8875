-- The rules of the alerts, as the setup file has them (the project's own format).
use Rattle.std.specs.Prelude.{Result, Ok, Err, ok_or, if◌then◌else◌}
use Rattle.toml.specs.Data.{Members, as_str}
use Rattle.plum_base.specs.declared.rules.Class.{Class}
use Rattle.plum_base.specs.declared.rules.Rules.{Rules}
use Rattle.plum_base.specs.Setup.{is_cancel_class, CALM}
use Rattle.plum_scale.specs.Classes.{class_named}
use Rattle.plum_table.specs.declared.fault.Field.TheVariants as field
use Rattle.plum_table.specs.declared.fault.SetupKey.{SetupKey}
use Rattle.plum_table.specs.declared.fault.SetupFault.{SetupFault}
use Rattle.plum_table.specs.declared.fault.SetupFault.TheVariants.{Range}
use Rattle.plum_table.specs.Keys.{setup_key}
use Rattle.plum_table.specs.Kinds.{◌>>=◌, value_at, natural_at}

-- the class whose text stands at a key
abbrev pub class_at : Members → SetupKey → Result Class SetupFault
class_at rules key = value_at as_str rules key >>= (λ text. ok_or (class_named text) (Range key))

-- the class below which readings are calm: not above the raise class
abbrev pub cancel_at : Members → Class → Result Class SetupFault
cancel_at rules raise =
    class_at rules (setup_key field.Cancel) >>= (λ cancel.
    if is_cancel_class raise cancel then Ok cancel
    else Err (Range (setup_key field.Cancel)))

-- the raise class, the cancel class, and the calm readings in a row that cancel
abbrev pub rules_of : Members → Result Rules SetupFault
rules_of rules =
    class_at rules (setup_key field.Raise) >>= (λ raise.
    cancel_at rules raise >>= (λ cancel.
    natural_at rules (setup_key field.Calm) CALM >>= (λ calm.
    Ok (record { raise = raise; cancel = cancel; calm = calm }))))
