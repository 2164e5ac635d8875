-- What a step over a host counts.
use Rattle.std.specs.Prelude.{◌≡◌}
use Rattle.plum_host.specs.Faults.{HasRisen}
use Rattle.plum_host.specs.Told.{HostView}

-- Both counts of faults are as before.
pub record CountsNothing (before after : HostView) : Type 0 where
  pub reads : after.read_faults ≡ before.read_faults
  pub writes : after.write_faults ≡ before.write_faults

-- One read failed more, and no write.
pub record CountsRead (before after : HostView) : Type 0 where
  pub reads : HasRisen before.read_faults after.read_faults
  pub writes : after.write_faults ≡ before.write_faults

-- One write failed more, and no read.
pub record CountsWrite (before after : HostView) : Type 0 where
  pub reads : after.read_faults ≡ before.read_faults
  pub writes : HasRisen before.write_faults after.write_faults
