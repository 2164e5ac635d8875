-- A capture that is read as far as a fault.
use Rattle.plum_host.specs.declared.host.In.TheVariants.{Capture}
use Rattle.plum_host.specs.Told.{HostView, WhereTold}
use Rattle.plum_packet.specs.Reading.{IsWithinLimit, HasTooManyRecords}

-- Where the host tells the capture: a read failed within the limit.
abbrev pub FailsWithin : HostView → HostView → Type 0
FailsWithin before after =
    WhereTold before Capture (λ capture. IsWithinLimit capture (after.left Capture))

-- Where the host tells the capture, it has more records than a replay takes.
abbrev pub HasTooMany : HostView → Type 0
HasTooMany before = WhereTold before Capture (λ capture. HasTooManyRecords capture)
