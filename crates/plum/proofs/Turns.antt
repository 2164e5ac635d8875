-- The inputs in the order of the work.
use Rattle.std.proofs.Common.{◌≡◌, ℕ, ◌<◌, true, false, List, refl, ap, ◌∙◌, arith}
use Rattle.plum_base.specs.declared.setup.Setup.{Setup}
use Rattle.plum_base.specs.declared.sites.StationSite.{StationSite}
use Rattle.plum_base.specs.Sites.{SitesView}
use Rattle.plum_host.specs.declared.host.In.{In}
use Rattle.plum_host.specs.declared.host.In.TheVariants as inputs
use Rattle.plum_host.specs.Told.{HostView, WhereTold}
use Rattle.plum_host.specs.Frames.{OnlyReads, LeavesOtherInputs}
use Rattle.plum_host.specs.Counting.{CountsNothing}
use Rattle.plum_host.proofs.Frames.{CountsNothing-join}
use Rattle.plum.specs.Files.{IsSetupFile, IsStationFile, FilesState, IsFile, turn_of, uses}
use Rattle.plum.specs.Files.{uses_files, uses_targets}
use Rattle.plum.specs.Causes.{ComesTo, LeavesBehind, LeavesUnused}
use Rattle.plum.specs.Job.{Job}
use Rattle.plum.specs.Ended.{IsAtTurn}

-- an input of an earlier turn is another one
pub earlier_differs : (input other : In) → turn_of input < turn_of other → other ≡ input → ⊥
earlier_differs input other earlier same = let e = ap turn_of same in omega arith

pub comes_to_setup : (job : Job) (host : HostView) → ComesTo job inputs.Setup host
comes_to_setup job host earlier before used = absurd (omega arith)

-- So where those before it state something.
pub comes_to_stations : (job : Job) (host : HostView) (setup : Setup)
    → WhereTold host inputs.Setup (IsSetupFile setup) → ComesTo job inputs.Stations host
comes_to_stations job host setup is inputs.Setup before used = λ bytes told. (setup, is bytes told)
comes_to_stations job host setup is inputs.Stations before used = absurd (omega arith)
comes_to_stations job host setup is inputs.Targets before used = absurd (omega arith)
comes_to_stations job host setup is inputs.Capture before used = absurd (omega arith)
comes_to_stations job host setup is inputs.Journal before used = absurd (omega arith)
comes_to_stations job host setup is inputs.Output before used = absurd (omega arith)

pub comes_to_targets : (job : Job) (host : HostView) (setup : Setup) (stations : List StationSite)
    → WhereTold host inputs.Setup (IsSetupFile setup)
    → WhereTold host inputs.Stations (IsStationFile stations) → ComesTo job inputs.Targets host
comes_to_targets job host setup stations is are inputs.Setup before used =
    λ bytes told. (setup, is bytes told)
comes_to_targets job host setup stations is are inputs.Stations before used =
    λ bytes told. (stations, are bytes told)
comes_to_targets job host setup stations is are inputs.Targets before used = absurd (omega arith)
comes_to_targets job host setup stations is are inputs.Capture before used = absurd (omega arith)
comes_to_targets job host setup stations is are inputs.Journal before used = absurd (omega arith)
comes_to_targets job host setup stations is are inputs.Output before used = absurd (omega arith)

pub comes_to_capture : (job : Job) (host : HostView) (setup : Setup) (sites : SitesView)
    → FilesState job host setup sites → ComesTo job inputs.Capture host
comes_to_capture job host setup sites state inputs.Setup before used =
    λ bytes told. (setup, state.setup_is bytes told)
comes_to_capture job host setup sites state inputs.Stations before used =
    λ bytes told. (sites.stations, state.stations_are bytes told)
comes_to_capture job host setup sites state inputs.Targets before used =
    λ bytes told. (sites.targets, state.targets_are used bytes told)
comes_to_capture job host setup sites state inputs.Capture before used = absurd (omega arith)
comes_to_capture job host setup sites state inputs.Journal before used = absurd (omega arith)
comes_to_capture job host setup sites state inputs.Output before used = absurd (omega arith)

-- nothing is read yet
pub at_start : (host : HostView) → IsAtTurn inputs.Setup host host
at_start host = record {
  inputs = λ input turn. refl;
  outputs = λ to. refl;
  counts = record { reads = refl; writes = refl };
}

-- What was said of the input at its turn holds of it as it was at first.
pub told_at_first : (file : In) (before now : HostView) (P : List ℕ → Type 0)
    → IsAtTurn file before now → WhereTold now file P → WhereTold before file P
told_at_first file before now P so_far holds bytes told =
    holds bytes (so_far.inputs file (omega arith) ∙ told)

-- Where an input is read in its turn, those behind it are left alone.
pub leaves_behind : (file : In) (before now after : HostView) → IsAtTurn file before now
    → OnlyReads file now after → LeavesBehind file before after
leaves_behind file before now after so_far frame later behind =
    frame.other_inputs later (earlier_differs file later behind) ∙ so_far.inputs later (omega arith)

-- What the command does not use is left alone where the work ends at an input that it uses, and
-- those before that one, and it, alone are read.
pub leaves_unused : (job : Job) (file : In) (before after : HostView) → uses_files job ≡ true
    → uses job file ≡ true → IsFile file → LeavesBehind file before after
    → LeavesUnused job before after
leaves_unused job file before after files used turn behind inputs.Setup none = absurd cc
leaves_unused job file before after files used turn behind inputs.Stations none = absurd cc
leaves_unused job inputs.Setup before after files used turn behind inputs.Targets none =
    behind inputs.Targets (omega arith)
leaves_unused job inputs.Stations before after files used turn behind inputs.Targets none =
    behind inputs.Targets (omega arith)
leaves_unused job inputs.Targets before after files used turn behind inputs.Targets none = absurd cc
leaves_unused job inputs.Capture before after files used turn behind inputs.Targets none =
    absurd (omega arith)
leaves_unused job inputs.Journal before after files used turn behind inputs.Targets none = absurd cc
leaves_unused job inputs.Output before after files used turn behind inputs.Targets none = absurd cc
leaves_unused job file before after files used turn behind inputs.Capture none = absurd cc
leaves_unused job file before after files used turn behind inputs.Journal none =
    behind inputs.Journal (omega arith)
leaves_unused job file before after files used turn behind inputs.Output none =
    behind inputs.Output (omega arith)

-- So where the work ends at the capture, if the targets were left alone or are used.
pub leaves_unused_at_capture : (job : Job) (before now after : HostView)
    → uses_files job ≡ true → LeavesUnused job before now
    → LeavesOtherInputs inputs.Capture now after
    → LeavesUnused job before after
leaves_unused_at_capture job before now after files unused left inputs.Setup none = absurd cc
leaves_unused_at_capture job before now after files unused left inputs.Stations none = absurd cc
leaves_unused_at_capture job before now after files unused left inputs.Targets none =
    left inputs.Targets (λ same. absurd cc) ∙ unused inputs.Targets none
leaves_unused_at_capture job before now after files unused left inputs.Capture none = absurd cc
leaves_unused_at_capture job before now after files unused left inputs.Journal none =
    left inputs.Journal (λ same. absurd cc) ∙ unused inputs.Journal none
leaves_unused_at_capture job before now after files unused left inputs.Output none =
    left inputs.Output (λ same. absurd cc) ∙ unused inputs.Output none

-- What the command does not use is left alone before the capture, where the targets are skipped.
pub unused_before_capture : (job : Job) (before between now : HostView)
    → uses_files job ≡ true → IsAtTurn inputs.Targets before between
    → IsAtTurn inputs.Capture before now
    → (uses_targets job ≡ false → now.left inputs.Targets ≡ between.left inputs.Targets)
    → LeavesUnused job before now
unused_before_capture job before between now files at_targets at_capture skipped inputs.Setup none =
    absurd cc
unused_before_capture job before between now files at_targets at_capture skipped inputs.Stations
    none =
    absurd cc
unused_before_capture job before between now files at_targets at_capture skipped inputs.Targets
    none =
    skipped none ∙ at_targets.inputs inputs.Targets (omega arith)
unused_before_capture job before between now files at_targets at_capture skipped inputs.Capture
    none =
    absurd cc
unused_before_capture job before between now files at_targets at_capture skipped inputs.Journal
    none =
    at_capture.inputs inputs.Journal (omega arith)
unused_before_capture job before between now files at_targets at_capture skipped inputs.Output
    none =
    at_capture.inputs inputs.Output (omega arith)

-- it is read, and the next one has its turn
pub one_more : (file next : In) (before now after : HostView) → turn_of file < turn_of next
    → IsAtTurn file before now → OnlyReads file now after → CountsNothing now after
    → IsAtTurn next before after
one_more file next before now after behind so_far frame counts = record {
  inputs = λ input turn. leaves_behind file before now after so_far frame input (omega arith);
  outputs = λ to. frame.outputs to ∙ so_far.outputs to;
  counts = CountsNothing-join so_far.counts counts;
}

-- the turns of the stations, of the targets and of the capture

pub at_stations : {first now : HostView} → OnlyReads inputs.Setup first now
    → CountsNothing first now → IsAtTurn inputs.Stations first now
at_stations {first = first} {now = now} frame counts =
    one_more inputs.Setup inputs.Stations first first now (omega arith) (at_start first) frame
    counts

pub at_targets : {first now next : HostView} → IsAtTurn inputs.Stations first now
    → OnlyReads inputs.Stations now next → CountsNothing now next
    → IsAtTurn inputs.Targets first next
at_targets {first = first} {now = now} {next = next} so_far frame counts =
    one_more inputs.Stations inputs.Targets first now next (omega arith) so_far frame counts

pub at_capture : {first now next : HostView} → IsAtTurn inputs.Targets first now
    → OnlyReads inputs.Targets now next → CountsNothing now next
    → IsAtTurn inputs.Capture first next
at_capture {first = first} {now = now} {next = next} so_far frame counts =
    one_more inputs.Targets inputs.Capture first now next (omega arith) so_far frame counts
