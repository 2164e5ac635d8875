-- The keys of the setup file (the project's own format).
use Rattle.std.specs.Prelude.{ℕ, List, [], ◌++◌, codes, decimal}
use Rattle.plum_table.specs.declared.fault.Field.{Field}
use Rattle.plum_table.specs.declared.fault.Field.TheVariants as field
use Rattle.plum_table.specs.declared.fault.SetupKey.{SetupKey}

-- a key outside of the stages
abbrev pub setup_key : Field → SetupKey
setup_key f = record { field = f; stage = 0 }

-- a key of the stage with this number, from 0
abbrev pub stage_key : Field → ℕ → SetupKey
stage_key f n = record { field = f; stage = n }

-- the key within its table
abbrev pub name_of : Field → List ℕ
name_of field.Lanes = codes "lanes"
name_of field.Queue = codes "queue"
name_of field.Gain = codes "gain"
name_of field.GainG = codes "g"
name_of field.GainH = codes "h"
name_of field.Stages = codes "stage"
name_of field.B0 = codes "b0"
name_of field.B1 = codes "b1"
name_of field.B2 = codes "b2"
name_of field.A1 = codes "a1"
name_of field.A2 = codes "a2"
name_of field.Q = codes "q"
name_of field.Round = codes "round"
name_of field.Levels = codes "levels"
name_of field.Base = codes "base"
name_of field.Thresholds = codes "thresholds"
name_of field.Rules = codes "rules"
name_of field.Raise = codes "raise"
name_of field.Cancel = codes "cancel"
name_of field.Calm = codes "calm"

-- the stage with this number, as a table
abbrev pub stage_text : ℕ → List ℕ
stage_text n = codes "stage[" ++ decimal n ++ codes "]."

-- the table that a key stands in, where there is one
abbrev pub table_text : Field → ℕ → List ℕ
table_text field.GainG n = codes "gain."
table_text field.GainH n = codes "gain."
table_text field.B0 n = stage_text n
table_text field.B1 n = stage_text n
table_text field.B2 n = stage_text n
table_text field.A1 n = stage_text n
table_text field.A2 n = stage_text n
table_text field.Q n = stage_text n
table_text field.Round n = stage_text n
table_text field.Base n = codes "levels."
table_text field.Thresholds n = codes "levels."
table_text field.Raise n = codes "rules."
table_text field.Cancel n = codes "rules."
table_text field.Calm n = codes "rules."
table_text other n = []

-- the whole key, for example `levels.base` or `stage[2].b1`
abbrev pub key_text : SetupKey → List ℕ
key_text key = table_text key.field key.stage ++ name_of key.field
