-- How the work of a call ended, and what it did until then.
use Rattle.std.specs.Prelude.{◌≡◌, ◌≤◌, true}
use Rattle.plum_base.specs.declared.setup.Setup.{Setup}
use Rattle.plum_base.specs.Levels.{IsLevelTable}
use Rattle.plum_base.specs.Sites.{SitesView}
use Rattle.plum_host.specs.declared.host.In.{In}
use Rattle.plum_host.specs.declared.host.In.TheVariants as inputs
use Rattle.plum_host.specs.Counting.{CountsNothing}
use Rattle.plum_host.specs.Frames.{LeavesOutputs}
use Rattle.plum_host.specs.Told.{HostView}
use Rattle.plum.specs.declared.status.LimitOf.TheVariants.{Records}
use Rattle.plum.specs.declared.status.Status.{Status}
use Rattle.plum.specs.declared.status.Status.TheVariants.{Done, ReadFault, WriteFault, Limit}
use Rattle.plum.specs.declared.status.Status.TheVariants.{NoMemory}
use Rattle.plum.specs.Causes.{HasCause, LeavesUnused}
use Rattle.plum.specs.DrillSummary.{StopsInDrill, TellsDrill}
use Rattle.plum.specs.Files.{turn_of, uses_files, FilesState}
use Rattle.plum.specs.Job.{Job, replay, station, check, drill}
use Rattle.plum.specs.Plain.{TellsFiles, StopsInTelling}
use Rattle.plum.specs.Replayed.{AppendsNothing, ReplaysFiles, StopsInReplay}
use Rattle.plum.specs.Status.{CountsEnd}

-- What a command does: `replay` writes the two texts of a replay, the plain commands their own, and
-- `drill` its summary.
abbrev pub DoesJob : Job → HostView → HostView → Type 0
DoesJob (replay setup stations targets capture journal) before after =
    ReplaysFiles (replay setup stations targets capture journal) before after
DoesJob (station setup stations capture code) before after =
    TellsFiles (station setup stations capture code) before after
DoesJob (check setup stations targets capture) before after =
    TellsFiles (check setup stations targets capture) before after
DoesJob (drill seed stations seconds) before after =
    TellsDrill seed stations seconds before after

-- What stands in the outputs where a fault breaks it off behind the files that it uses.
abbrev pub BreaksOff : Job → HostView → HostView → Type 0
BreaksOff (replay setup stations targets capture journal) before after =
    StopsInReplay (replay setup stations targets capture journal) before after
BreaksOff (station setup stations capture code) before after =
    StopsInTelling (station setup stations capture code) before after
BreaksOff (check setup stations targets capture) before after =
    StopsInTelling (check setup stations targets capture) before after
BreaksOff (drill seed stations seconds) before after =
    StopsInDrill seed stations seconds before after

-- what stands in the outputs where it ended so
abbrev pub AppendsEnd : Job → Status → HostView → HostView → Type 0
AppendsEnd job Done before after = DoesJob job before after
AppendsEnd job ReadFault before after = BreaksOff job before after
AppendsEnd job (Limit Records) before after = BreaksOff job before after
AppendsEnd job WriteFault before after = BreaksOff job before after
AppendsEnd job NoMemory before after = BreaksOff job before after
AppendsEnd job status before after = AppendsNothing before after

-- the parts of the promise of a call
pub record HasEnded (job : Job) (status : Status) (before after : HostView) : Type 0 where
  pub cause : HasCause job status before after
  pub counts : CountsEnd status before after
  pub appends : AppendsEnd job status before after
  pub unused : LeavesUnused job before after

-- The work has come to the turn of this input: no input from it on is read yet, and nothing is
-- counted or written.
pub record IsAtTurn (file : In) (before now : HostView) : Type 0 where
  pub inputs : (input : In) → turn_of file ≤ turn_of input → now.left input ≡ before.left input
  pub outputs : LeavesOutputs before now
  pub counts : CountsNothing before now

-- The files that the command uses are read, and state this setup, whose table is lawful, and these
-- sites; the capture has its turn.
pub record AreRead (job : Job) (setup : Setup) (sites : SitesView) (before now : HostView)
    : Type 0 where
  pub files : uses_files job ≡ true
  pub stated : FilesState job before setup sites
  pub table : IsLevelTable setup.levels
  pub at_turn : IsAtTurn inputs.Capture before now
  pub unused : LeavesUnused job before now
