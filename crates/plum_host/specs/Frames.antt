-- What reads and writes leave alone.
use Rattle.std.specs.Prelude.{◌≡◌, ◌≢◌}
use Rattle.plum_host.specs.declared.host.In.{In}
use Rattle.plum_host.specs.declared.host.To.{To}
use Rattle.plum_host.specs.Told.{HostView}

-- The inputs other than this one are as before.
abbrev pub LeavesOtherInputs : In → HostView → HostView → Type 0
LeavesOtherInputs file before after =
    (other : In) → other ≢ file → after.left other ≡ before.left other

-- What stands in the outputs is as before.
abbrev pub LeavesOutputs : HostView → HostView → Type 0
LeavesOutputs before after = (to : To) → after.held to ≡ before.held to

-- What is left of the inputs is as before.
abbrev pub LeavesInputs : HostView → HostView → Type 0
LeavesInputs before after = (input : In) → after.left input ≡ before.left input

-- Nothing but this input was read: the other inputs, both outputs and the count of write faults
-- are as before.
pub record OnlyReads (file : In) (before after : HostView) : Type 0 where
  pub other_inputs : LeavesOtherInputs file before after
  pub outputs : LeavesOutputs before after
  pub write_faults : after.write_faults ≡ before.write_faults

-- Nothing but this output was written: the other output, all inputs and the count of read faults
-- are as before.
pub record OnlyWrites (file : To) (before after : HostView) : Type 0 where
  pub other_output : (other : To) → other ≢ file → after.held other ≡ before.held other
  pub inputs : LeavesInputs before after
  pub read_faults : after.read_faults ≡ before.read_faults
