-- The setup that bytes state: a TOML document, walked key by key (the project's own format).
use Rattle.std.specs.Prelude.{ℕ, List, Option, None, Result, Ok}
use Rattle.std.specs.Prelude.{◌≡◌, Err, ⊤, ok_or, if◌then◌else◌}
use Rattle.std.specs.Str.{is_utf8}
use Rattle.toml.specs.Data.{Members, as_table}
use Rattle.toml.specs.Parse.{parse_document}
use Rattle.plum_base.specs.declared.setup.Gain.{Gain}
use Rattle.plum_base.specs.declared.setup.Setup.{Setup}
use Rattle.plum_base.specs.declared.cascade.Stage.{Stage}
use Rattle.plum_base.specs.declared.rules.Rules.{Rules}
use Rattle.plum_base.specs.Levels.{LevelsView}
use Rattle.plum_base.specs.Setup.{GAIN_G, GAIN_H, LANES, QUEUE}
use Rattle.plum_table.specs.declared.fault.Field.TheVariants as field
use Rattle.plum_table.specs.declared.fault.SetupFault.{SetupFault}
use Rattle.plum_table.specs.declared.fault.SetupFault.TheVariants.{NotToml}
use Rattle.plum_table.specs.declared.fault.TableFault.{TableFault}
use Rattle.plum_table.specs.declared.fault.TableFault.TheVariants as answer
use Rattle.plum_table.specs.Keys.{setup_key}
use Rattle.plum_table.specs.Kinds.{◌>>=◌, value_at, natural_at}
use Rattle.plum_table.specs.Stages.{stages_of}
use Rattle.plum_table.specs.Levels.{levels_of}
use Rattle.plum_table.specs.Rules.{rules_of}

-- what a setup holds
pub record SetupFields : Type 0 where
  pub lanes : ℕ
  pub queue : ℕ
  pub gain : Gain
  pub stages : List Stage
  pub levels : LevelsView
  pub rules : Rules

-- a setup, as what it holds
abbrev pub fields_of : Setup → SetupFields
fields_of s = record {
  lanes = s.lanes;
  queue = s.queue;
  gain = s.gain;
  stages = s.cascade;
  levels = s.levels;
  rules = s.rules;
}

-- counts times g, divided by 2^h, each within its bounds
abbrev pub gain_of : Members → Result Gain SetupFault
gain_of gain =
    natural_at gain (setup_key field.GainG) GAIN_G >>= (λ g.
    natural_at gain (setup_key field.GainH) GAIN_H >>= (λ h.
    Ok (record { g = g; h = h })))

-- The keys of the file, in the order in which they are read.
abbrev pub setup_in : Members → Result SetupFields SetupFault
setup_in file =
    natural_at file (setup_key field.Lanes) LANES >>= (λ lanes.
    natural_at file (setup_key field.Queue) QUEUE >>= (λ queue.
    value_at as_table file (setup_key field.Gain) >>= gain_of >>= (λ gain.
    stages_of file >>= (λ stages.
    value_at as_table file (setup_key field.Levels) >>= levels_of >>= (λ levels.
    value_at as_table file (setup_key field.Rules) >>= rules_of >>= (λ rules.
    Ok (record {
      lanes = lanes;
      queue = queue;
      gain = gain;
      stages = stages;
      levels = levels;
      rules = rules;
    })))))))

-- the table that a document is, as `toml` reads it
abbrev pub document_of : List ℕ → Option Members
document_of bytes = if is_utf8 bytes then parse_document bytes else None

-- the setup that a file states, or its first fault
abbrev pub setup_of : List ℕ → Result SetupFields SetupFault
setup_of bytes = ok_or (document_of bytes) NotToml >>= setup_in

-- The answer is the fault that the file states; want of memory says nothing of the file.
abbrev pub IsStatedFault : Result SetupFields SetupFault → TableFault → Type 0
IsStatedFault stated (answer.Setup fault) = stated ≡ Err fault
IsStatedFault stated answer.NoMemory = ⊤
