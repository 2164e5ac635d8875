-- How the work ends at each input.
use Rattle.std.proofs.Common.{◌≡◌, ℕ, ◌<◌, true, List, Option, Some, None}
use Rattle.std.proofs.Common.{inl, inr, refl, ap, subst, ◌∙◌, arith}
use Rattle.std.specs.Prelude.{IfSome}
use Rattle.plum_base.specs.declared.setup.Setup.{Setup}
use Rattle.plum_base.specs.Counts.{AddUp}
use Rattle.plum_base.specs.Sites.{SitesView}
use Rattle.plum_host.specs.declared.host.In.{In}
use Rattle.plum_host.specs.declared.host.In.TheVariants as inputs
use Rattle.plum_host.specs.declared.host.To.TheVariants.{Out, Journal}
use Rattle.plum_host.specs.Told.{HostView, Appends}
use Rattle.plum_host.specs.Frames.{OnlyReads, LeavesOtherInputs, LeavesOutputs}
use Rattle.plum_host.specs.Counting.{CountsNothing}
use Rattle.plum_replay.specs.declared.fault.ReplayFault.{ReplayFault}
use Rattle.plum_replay.specs.declared.fault.ReplayFault.TheVariants as replays
use Rattle.plum_replay.specs.declared.totals.Totals.{Totals}
use Rattle.plum_replay.specs.Begun.{BeginsReplay}
use Rattle.plum_replay.specs.Captured.{FailsWithin, HasTooMany}
use Rattle.plum_replay.specs.Faults.{CountsStop}
use Rattle.plum_replay.specs.Replayed.{ReplaysCapture, counts_in_all}
use Rattle.plum_replay.proofs.Writings.{appends-same}
use Rattle.plum.specs.declared.status.SitesFile.TheVariants as sites
use Rattle.plum.specs.declared.status.LimitOf.TheVariants as limits
use Rattle.plum.specs.declared.status.Status.{Status}
use Rattle.plum.specs.declared.status.Status.TheVariants as ends
use Rattle.plum.specs.Files.{turn_of, IsFile, uses, uses_files}
use Rattle.plum.specs.Causes.{FailsAt, IsCause, ComesTo, LeavesBehind, LeavesUnused}
use Rattle.plum.specs.Causes.{EndsAtAnInput, HasCause}
use Rattle.plum.specs.Job.{Job, replay, station, check, drill, IsReplay}
use Rattle.plum.specs.Replayed.{AppendsNothing, StopsInReplay}
use Rattle.plum.specs.Status.{CountsEnd, status_of}
use Rattle.plum.specs.Ended.{AppendsEnd, HasEnded, IsAtTurn, AreRead, BreaksOff}
use Rattle.plum.specs.Plain.{LeavesJournal}
use Rattle.plum.proofs.Turns.{leaves_behind, leaves_unused, leaves_unused_at_capture}
use Rattle.plum.proofs.Turns.{comes_to_capture}

-- What was said of an input as it was left holds of it as it was at first.

pub fails_from : (file : In) (before now after : HostView) → now.left file ≡ before.left file
    → FailsAt file now after → FailsAt file before after
fails_from inputs.Setup before now after same (turn, failed) =
    (turn, λ bytes told. failed bytes (same ∙ told))
fails_from inputs.Stations before now after same (turn, failed) =
    (turn, λ bytes told. failed bytes (same ∙ told))
fails_from inputs.Targets before now after same (turn, failed) =
    (turn, λ bytes told. failed bytes (same ∙ told))
fails_from inputs.Capture before now after same failed =
    λ capture told. failed capture (same ∙ told)
fails_from inputs.Journal before now after same (turn, failed) = absurd (omega arith)
fails_from inputs.Output before now after same (turn, failed) = absurd (omega arith)

pub cause_from : (status : Status) (file : In) (before now after : HostView)
    → now.left file ≡ before.left file → IsCause status file now after
    → IsCause status file before after
cause_from ends.Done file before now after same cause = cause
cause_from ends.Usage file before now after same cause = cause
cause_from (ends.Setup fault) file before now after same (at, has) =
    (at, λ bytes told. has bytes (same ∙ told))
cause_from (ends.Sites sites.Stations fault) file before now after same (at, has) =
    (at, λ bytes told. has bytes (same ∙ told))
cause_from (ends.Sites sites.Targets fault) file before now after same (at, has) =
    (at, λ bytes told. has bytes (same ∙ told))
cause_from ends.ReadFault file before now after same cause =
    fails_from file before now after same cause
cause_from ends.WriteFault file before now after same cause = cause
cause_from (ends.Limit (limits.File long)) file before now after same (at, turn, has) =
    (at, turn, λ bytes told. has bytes (same ∙ told))
cause_from (ends.Limit limits.Records) file before now after same (at, has) = (
  at,
  λ capture told. has capture
      (subst (λ f. now.left f ≡ before.left f) at same ∙ told),
)
cause_from ends.NoMemory file before now after same cause = cause

pub counts_from : (status : Status) (before now after : HostView) → CountsNothing before now
    → CountsEnd status now after → CountsEnd status before after
counts_from ends.ReadFault before now after none ended =
    record { reads = rw (← none.reads) ended.reads; writes = ended.writes ∙ none.writes }
counts_from ends.WriteFault before now after none ended =
    record { reads = ended.reads ∙ none.reads; writes = rw (← none.writes) ended.writes }
counts_from ends.Done before now after none ended =
    record { reads = ended.reads ∙ none.reads; writes = ended.writes ∙ none.writes }
counts_from ends.Usage before now after none ended =
    record { reads = ended.reads ∙ none.reads; writes = ended.writes ∙ none.writes }
counts_from (ends.Setup fault) before now after none ended =
    record { reads = ended.reads ∙ none.reads; writes = ended.writes ∙ none.writes }
counts_from (ends.Sites file fault) before now after none ended =
    record { reads = ended.reads ∙ none.reads; writes = ended.writes ∙ none.writes }
counts_from (ends.Limit of_what) before now after none ended =
    record { reads = ended.reads ∙ none.reads; writes = ended.writes ∙ none.writes }
counts_from ends.NoMemory before now after none ended =
    record { reads = ended.reads ∙ none.reads; writes = ended.writes ∙ none.writes }

-- Where no output was written, nothing is appended.
pub nothing_appended : (before after : HostView) → LeavesOutputs before after
    → AppendsNothing before after
nothing_appended before after same = record {
  journal = appends-same (before.held Journal) (after.held Journal) (same Journal);
  output = same Out;
}

-- where nothing is appended, no command has done more than it may
pub broke_off_quietly : (job : Job) (before after : HostView) → AppendsNothing before after
    → LeavesJournal before after → BreaksOff job before after
broke_off_quietly (replay setup stations targets capture journal) before after nothing left =
    inl nothing
broke_off_quietly (station setup stations capture code) before after nothing left =
    record { journal = left; output = inl nothing.output }
broke_off_quietly (check setup stations targets capture) before after nothing left =
    record { journal = left; output = inl nothing.output }
broke_off_quietly (drill seed stations seconds) before after nothing left =
    record { journal = left; output = inl nothing.output }

-- Where memory is short before anything is read, nothing is appended.
pub unread_appends : (asked : Option Job) (host : HostView)
    → IfSome asked (λ job. AppendsEnd job ends.NoMemory host host)
unread_appends None host = tt
unread_appends (Some job) host =
    broke_off_quietly job host host (nothing_appended host host (λ to. refl)) refl

-- At a file the work ends before anything is appended.
appends_at_a_file : (job : Job) (status : Status) (file : In) (before after : HostView)
    → IsFile file → IsCause status file before after → AppendsNothing before after
    → LeavesJournal before after → AppendsEnd job status before after
appends_at_a_file job ends.Done file before after turn cause nothing left =
    let e = ap turn_of cause in absurd (omega arith)
appends_at_a_file job ends.Usage file before after turn cause nothing left = absurd cause
appends_at_a_file job (ends.Setup fault) file before after turn cause nothing left = nothing
appends_at_a_file job (ends.Sites which fault) file before after turn cause nothing left = nothing
appends_at_a_file job ends.ReadFault file before after turn cause nothing left =
    broke_off_quietly job before after nothing left
appends_at_a_file job ends.WriteFault file before after turn cause nothing left =
    broke_off_quietly job before after nothing left
appends_at_a_file job (ends.Limit (limits.File long)) file before after turn cause nothing left =
    nothing
appends_at_a_file job (ends.Limit limits.Records) file before after turn cause nothing left =
    broke_off_quietly job before after nothing left
appends_at_a_file job ends.NoMemory file before after turn cause nothing left =
    broke_off_quietly job before after nothing left

-- A command that reads files ends at an input.
pub caused_at : (job : Job) (status : Status) (before after : HostView) → uses_files job ≡ true
    → EndsAtAnInput job status before after → HasCause job status before after
caused_at (replay setup stations targets capture journal) status before after files at = at
caused_at (station setup stations capture code) status before after files at = at
caused_at (check setup stations targets capture) status before after files at = at
caused_at (drill seed stations seconds) status before after files at = absurd cc

-- the work ends at a file
pub ends_at_a_file : (job : Job) (status : Status) (file : In) (before now after : HostView)
    → IsFile file → uses_files job ≡ true → uses job file ≡ true → ComesTo job file before
    → IsAtTurn file before now
    → OnlyReads file now after → IsCause status file now after → CountsEnd status now after
    → HasEnded job status before after
ends_at_a_file job status file before now after turn files used comes so_far frame cause counts =
    let here = cause_from status file before now after (so_far.inputs file (omega arith)) cause in
    let behind = leaves_behind file before now after so_far frame in
    let outputs : LeavesOutputs before after = λ to. frame.outputs to ∙ so_far.outputs to in
    let nothing = nothing_appended before after outputs in
    record {
      cause = caused_at job status before after files (record {
        file = file;
        used = used;
        before_it = comes;
        behind_it = behind;
        cause = here;
      });
      counts = counts_from status before now after so_far.counts counts;
      appends = appends_at_a_file job status file before after turn here nothing
          (outputs Journal);
      unused = leaves_unused job file before after files used turn behind;
    }

-- memory is short behind the files
pub ends_behind_the_files : (job : Job) (before now : HostView) → uses_files job ≡ true
    → ComesTo job inputs.Capture before → IsAtTurn inputs.Capture before now
    → LeavesUnused job before now
    → HasEnded job ends.NoMemory before now
ends_behind_the_files job before now files comes so_far unused =
    record {
      cause = caused_at job ends.NoMemory before now files (record {
        file = inputs.Capture;
        used = files;
        before_it = comes;
        behind_it = λ later turn. so_far.inputs later (omega arith);
        cause = tt;
      });
      counts = so_far.counts;
      appends = broke_off_quietly job before now (nothing_appended before now so_far.outputs)
          (so_far.outputs Journal);
      unused = unused;
    }

-- What a replay appended to the outputs as they were left, it appended to those at first.

begun_from : (job : Job) (setup : Setup) (sites : SitesView) (before now after : HostView)
    → AreRead job setup sites before now → BeginsReplay setup sites now after
    → StopsInReplay job before after
begun_from job setup sites before now after read begun =
    let turn = read.at_turn in
    inr (
      setup,
      sites,
      read.stated,
      λ capture told.
          let (journal, output, begins, journal_appended, output_appended) =
          begun capture (turn.inputs inputs.Capture (omega arith) ∙ told) in (
            journal,
            output,
            begins,
            subst (λ held. Appends held (after.held Journal) journal) (turn.outputs Journal)
                journal_appended,
            subst (λ held. Appends held (after.held Out) output) (turn.outputs Out) output_appended,
          ),
    )

replayed_from : (setup : Setup) (sites : SitesView) (totals : Totals)
    (before now after : HostView) → IsAtTurn inputs.Capture before now
    → ReplaysCapture setup sites totals now after → ReplaysCapture setup sites totals before after
replayed_from setup sites totals before now after so_far replays capture told =
    let done = replays capture (so_far.inputs inputs.Capture (omega arith) ∙ told) in
    record {
      journal = done.journal;
      output = done.output;
      replay = done.replay;
      journal_appended = subst (λ held. Appends held (after.held Journal) done.journal)
          (so_far.outputs Journal) done.journal_appended;
      output_appended = subst (λ held. Appends held (after.held Out) done.output)
          (so_far.outputs Out) done.output_appended;
      totals_are = done.totals_are;
      read = done.read;
    }

capture_differs : (later : In) → turn_of inputs.Capture < turn_of later → later ≡ inputs.Capture
    → ⊥
capture_differs later behind same = let e = ap turn_of same in omega arith

leaves_earlier : (before now after : HostView) → IsAtTurn inputs.Capture before now
    → LeavesOtherInputs inputs.Capture now after → LeavesBehind inputs.Capture before after
leaves_earlier before now after so_far left later behind =
    left later (capture_differs later behind) ∙ so_far.inputs later (omega arith)

-- what a replay promises where it stops
pub record HasStopped (setup : Setup) (sites : SitesView) (fault : ReplayFault)
    (before after : HostView) : Type 0 where
  pub read : fault ≡ replays.Read → FailsWithin before after
  pub limit : fault ≡ replays.Limit → HasTooMany before
  pub begun : BeginsReplay setup sites before after
  pub counts : CountsStop fault before after
  pub other_inputs : LeavesOtherInputs inputs.Capture before after

-- why a replay stopped
pub cause_of : (fault : ReplayFault) (before now after : HostView)
    → now.left inputs.Capture ≡ before.left inputs.Capture
    → (fault ≡ replays.Read → FailsWithin now after)
    → (fault ≡ replays.Limit → HasTooMany now)
    → IsCause (status_of fault) inputs.Capture before after
cause_of replays.Read before now after same read limit =
    fails_from inputs.Capture before now after same (read refl)
cause_of replays.Write before now after same read limit = refl
cause_of replays.Limit before now after same read limit =
    cause_from (ends.Limit limits.Records) inputs.Capture before now after same (refl, limit refl)
cause_of replays.NoMemory before now after same read limit = tt

-- and what it counted
pub counts_of : (fault : ReplayFault) (before after : HostView) → CountsStop fault before after
    → CountsEnd (status_of fault) before after
counts_of replays.Read before after counts = counts
counts_of replays.Write before after counts = counts
counts_of replays.Limit before after counts = counts
counts_of replays.NoMemory before after counts = counts

-- the work ends at the capture
pub at_the_capture : (job : Job) (setup : Setup) (sites : SitesView) (status : Status)
    (before now after : HostView) → AreRead job setup sites before now
    → LeavesOtherInputs inputs.Capture now after → IsCause status inputs.Capture before after
    → EndsAtAnInput job status before after
at_the_capture job setup sites status before now after read left cause = record {
  file = inputs.Capture;
  used = read.files;
  before_it = comes_to_capture job before setup sites read.stated;
  behind_it = leaves_earlier before now after read.at_turn left;
  cause = cause;
}

module _ (setup_path stations_path targets_path capture_path journal_path : List ℕ)
    (setup : Setup) (sites : SitesView) (before now after : HostView) where
  abbrev it : Job
  it = replay setup_path stations_path targets_path capture_path journal_path

  -- what stands in the outputs where the replay stops
  stops_so : (fault : ReplayFault) → StopsInReplay it before after
      → AppendsEnd it (status_of fault) before after
  stops_so replays.Read stops = stops
  stops_so replays.Write stops = stops
  stops_so replays.Limit stops = stops
  stops_so replays.NoMemory stops = stops

  -- the work ends there
  ends_in_it : (fault : ReplayFault) → AreRead it setup sites before now
      → HasStopped setup sites fault now after → HasEnded it (status_of fault) before after
  ends_in_it fault read stopped = record {
    cause = at_the_capture it setup sites (status_of fault) before now after read
        stopped.other_inputs (cause_of fault before now after
        (read.at_turn.inputs inputs.Capture (omega arith)) stopped.read stopped.limit);
    counts = counts_from (status_of fault) before now after read.at_turn.counts
        (counts_of fault now after stopped.counts);
    appends = stops_so fault (begun_from it setup sites before now after read stopped.begun);
    unused = leaves_unused_at_capture it before now after refl read.unused stopped.other_inputs;
  }

  -- the work is done
  ends_it : (totals : Totals) → AreRead it setup sites before now
      → ReplaysCapture setup sites totals now after → AddUp (counts_in_all totals)
      → CountsNothing now after → LeavesOtherInputs inputs.Capture now after
      → HasEnded it ends.Done before after
  ends_it totals read replays sums counts left =
      record {
        cause = at_the_capture it setup sites ends.Done before now after read left refl;
        counts = counts_from ends.Done before now after read.at_turn.counts counts;
        appends = record {
          setup = setup;
          sites = sites;
          stated = read.stated;
          totals = totals;
          replays = replayed_from setup sites totals before now after read.at_turn replays;
          sums = sums;
        };
        unused = leaves_unused_at_capture it before now after refl read.unused left;
      }

pub ends_in_the_replay : (job : Job) → IsReplay job → (setup : Setup) (sites : SitesView)
    (fault : ReplayFault) (before now after : HostView) → AreRead job setup sites before now
    → HasStopped setup sites fault now after → HasEnded job (status_of fault) before after
ends_in_the_replay (replay s st t c j) is setup sites fault before now after read stopped =
    ends_in_it s st t c j setup sites before now after fault read stopped
ends_in_the_replay (station s st c n) is setup sites fault before now after read stopped =
    absurd is
ends_in_the_replay (check s st t c) is setup sites fault before now after read stopped = absurd is
ends_in_the_replay (drill n m k) is setup sites fault before now after read stopped = absurd is

pub ends_done : (job : Job) → IsReplay job → (setup : Setup) (sites : SitesView)
    (totals : Totals) (before now after : HostView) → AreRead job setup sites before now
    → ReplaysCapture setup sites totals now after → AddUp (counts_in_all totals)
    → CountsNothing now after → LeavesOtherInputs inputs.Capture now after
    → HasEnded job ends.Done before after
ends_done (replay s st t c j) is setup sites totals before now after read replays sums counts
    left = ends_it s st t c j setup sites before now after totals read replays sums counts left
ends_done (station s st c n) is setup sites totals before now after read replays sums counts
    left = absurd is
ends_done (check s st t c) is setup sites totals before now after read replays sums counts left =
    absurd is
ends_done (drill n m k) is setup sites totals before now after read replays sums counts left =
    absurd is
