-- Why a call ends, and at which input (the project's own order of refusals).
use Rattle.std.specs.Prelude.{◌≡◌, ⊤, ℕ, ◌<◌, ◌≤◌, true, false, List, length, Err}
use Rattle.plum_host.specs.declared.host.In.{In}
use Rattle.plum_host.specs.declared.host.In.TheVariants as inputs
use Rattle.plum_host.specs.Loading.{TakesAtMost}
use Rattle.plum_host.specs.Told.{HostView, WhereTold}
use Rattle.plum_table.specs.declared.fault.SetupFault.{SetupFault}
use Rattle.plum_table.specs.Setup.{setup_of}
use Rattle.plum_sites.specs.declared.fault.SiteFault.{SiteFault}
use Rattle.plum_sites.specs.Stations.{IsStationFaultOf}
use Rattle.plum_sites.specs.Targets.{IsTargetFaultOf}
use Rattle.plum_replay.specs.Captured.{FailsWithin, HasTooMany}
use Rattle.plum.specs.declared.status.SitesFile.TheVariants as sites
use Rattle.plum.specs.declared.status.LimitOf.TheVariants as limits
use Rattle.plum.specs.declared.status.Status.{Status}
use Rattle.plum.specs.declared.status.Status.TheVariants.{Done, Usage, Setup, Sites, ReadFault}
use Rattle.plum.specs.declared.status.Status.TheVariants.{WriteFault, Limit, NoMemory}
use Rattle.plum.specs.Files.{MOST_BYTES, IsLawful, turn_of, IsFile, uses}
use Rattle.plum.specs.Job.{Job, replay, station, check, drill}

-- The bytes of a file that is within the limit, and this is what is wrong first with it.
abbrev pub IsFaultySetupFile : SetupFault → List ℕ → Type 0
IsFaultySetupFile fault bytes = (length bytes ≤ MOST_BYTES) × (setup_of bytes ≡ Err fault)

abbrev pub IsFaultyStationFile : SiteFault → List ℕ → Type 0
IsFaultyStationFile fault bytes = (length bytes ≤ MOST_BYTES) × IsStationFaultOf bytes fault

abbrev pub IsFaultyTargetFile : SiteFault → List ℕ → Type 0
IsFaultyTargetFile fault bytes = (length bytes ≤ MOST_BYTES) × IsTargetFaultOf bytes fault

-- A read of this input failed within its limit: no more bytes of a file were taken, and of the
-- capture no more records, than are taken of it.
abbrev pub FailsAt : In → HostView → HostView → Type 0
FailsAt inputs.Capture before after = FailsWithin before after
FailsAt file before after = IsFile file × TakesAtMost MOST_BYTES file before after

-- why a call that ends so ended at this input
abbrev pub IsCause : Status → In → HostView → HostView → Type 0
IsCause Done file before after = file ≡ inputs.Capture
IsCause Usage file before after = ⊥
IsCause (Setup fault) file before after =
    (file ≡ inputs.Setup) × WhereTold before file (IsFaultySetupFile fault)
IsCause (Sites sites.Stations fault) file before after =
    (file ≡ inputs.Stations) × WhereTold before file (IsFaultyStationFile fault)
IsCause (Sites sites.Targets fault) file before after =
    (file ≡ inputs.Targets) × WhereTold before file (IsFaultyTargetFile fault)
IsCause ReadFault file before after = FailsAt file before after
IsCause WriteFault file before after = file ≡ inputs.Capture
IsCause (Limit (limits.File long)) file before after =
    (file ≡ long) × IsFile long × WhereTold before file (λ bytes. MOST_BYTES < length bytes)
IsCause (Limit limits.Records) file before after = (file ≡ inputs.Capture) × HasTooMany before
IsCause NoMemory file before after = ⊤

-- Where the host tells the inputs before this one that the command uses, they are lawful.
abbrev pub ComesTo : Job → In → HostView → Type 0
ComesTo job file host = (earlier : In) → turn_of earlier < turn_of file → uses job earlier ≡ true
    → WhereTold host earlier (IsLawful earlier)

-- Nothing of the inputs behind this one is read.
abbrev pub LeavesBehind : In → HostView → HostView → Type 0
LeavesBehind file before after =
    (later : In) → turn_of file < turn_of later → after.left later ≡ before.left later

-- Nothing is read of the inputs that the command does not use.
abbrev pub LeavesUnused : Job → HostView → HostView → Type 0
LeavesUnused job before after =
    (input : In) → uses job input ≡ false → after.left input ≡ before.left input

-- The work ended so at one of the inputs that the command uses: those before it are lawful, those
-- behind it are not read, and this is why.
pub record EndsAtAnInput (job : Job) (status : Status) (before after : HostView) : Type 0 where
  pub file : In
  pub used : uses job file ≡ true
  pub before_it : ComesTo job file before
  pub behind_it : LeavesBehind file before after
  pub cause : IsCause status file before after

-- A drill reads no input: its work is done, a write fails, or memory is short.
abbrev pub IsEndOfDrill : Status → Type 0
IsEndOfDrill Done = ⊤
IsEndOfDrill WriteFault = ⊤
IsEndOfDrill NoMemory = ⊤
IsEndOfDrill status = ⊥

-- why the work of a command ended so
abbrev pub HasCause : Job → Status → HostView → HostView → Type 0
HasCause (replay setup stations targets capture journal) status before after =
    EndsAtAnInput (replay setup stations targets capture journal) status before after
HasCause (station setup stations capture code) status before after =
    EndsAtAnInput (station setup stations capture code) status before after
HasCause (check setup stations targets capture) status before after =
    EndsAtAnInput (check setup stations targets capture) status before after
HasCause (drill seed stations seconds) status before after = IsEndOfDrill status
