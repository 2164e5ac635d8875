-- How the work of a plain command ends at the capture.
use Rattle.std.proofs.Common.{◌≡◌, ℕ, inr, refl, subst, ◌∙◌, arith, List}
use Rattle.plum_base.specs.declared.setup.Setup.{Setup}
use Rattle.plum_base.specs.declared.sites.StationSite.{StationSite}
use Rattle.plum_base.specs.Sites.{SitesView}
use Rattle.plum_host.specs.declared.host.In.TheVariants as inputs
use Rattle.plum_host.specs.declared.host.To.TheVariants.{Out, Journal}
use Rattle.plum_host.specs.Counting.{CountsNothing}
use Rattle.plum_host.specs.Frames.{LeavesOtherInputs}
use Rattle.plum_host.specs.Told.{HostView, Appends, WhereTold}
use Rattle.plum_replay.specs.declared.fault.ReplayFault.{ReplayFault}
use Rattle.plum_replay.specs.declared.fault.ReplayFault.TheVariants as replays
use Rattle.plum_replay.specs.Captured.{FailsWithin, HasTooMany}
use Rattle.plum_replay.specs.Faults.{CountsStop}
use Rattle.plum.specs.declared.status.Status.TheVariants as ends
use Rattle.plum.specs.Ended.{AppendsEnd, AreRead, DoesJob, HasEnded}
use Rattle.plum.specs.Job.{Job, replay, station, check, drill, IsCheck, IsPlain, IsStation}
use Rattle.plum.specs.Plain.{AppendsPlain, AppendsPlainBegun, LeavesJournal, StopsInTelling}
use Rattle.plum.specs.Plain.{TellsFiles}
use Rattle.plum.specs.Status.{status_of}
use Rattle.plum.proofs.Endings.{at_the_capture, caused_at, cause_of, counts_from, counts_of}
use Rattle.plum.proofs.Turns.{leaves_unused_at_capture}

pub station_is_plain : (code : ℕ) (job : Job) → IsStation code job → IsPlain job
station_is_plain code (replay s st t c j) is = absurd is
station_is_plain code (station s st c n) is = tt
station_is_plain code (check s st t c) is = absurd is
station_is_plain code (drill n m k) is = absurd is

pub check_is_plain : (job : Job) → IsCheck job → IsPlain job
check_is_plain (replay s st t c j) is = absurd is
check_is_plain (station s st c n) is = absurd is
check_is_plain (check s st t c) is = tt
check_is_plain (drill n m k) is = absurd is

-- what such a command promises where it stops
pub record HasStoppedTelling (job : Job) (setup : Setup) (stations : List StationSite)
    (fault : ReplayFault) (before after : HostView) : Type 0 where
  pub read : fault ≡ replays.Read → FailsWithin before after
  pub limit : fault ≡ replays.Limit → HasTooMany before
  pub begun : WhereTold before inputs.Capture (λ capture.
      AppendsPlainBegun job setup stations capture before after)
  pub journal : LeavesJournal before after
  pub counts : CountsStop fault before after
  pub other_inputs : LeavesOtherInputs inputs.Capture before after

-- what stands in the outputs
stops_so : (job : Job) (fault : ReplayFault) (before after : HostView) → IsPlain job
    → StopsInTelling job before after → AppendsEnd job (status_of fault) before after
stops_so (replay s st t c j) fault before after plain stops = absurd plain
stops_so (station s st c n) replays.Read before after plain stops = stops
stops_so (station s st c n) replays.Write before after plain stops = stops
stops_so (station s st c n) replays.Limit before after plain stops = stops
stops_so (station s st c n) replays.NoMemory before after plain stops = stops
stops_so (check s st t c) replays.Read before after plain stops = stops
stops_so (check s st t c) replays.Write before after plain stops = stops
stops_so (check s st t c) replays.Limit before after plain stops = stops
stops_so (check s st t c) replays.NoMemory before after plain stops = stops
stops_so (drill n m k) fault before after plain stops = absurd plain

does_so : (job : Job) (before after : HostView) → IsPlain job → TellsFiles job before after
    → DoesJob job before after
does_so (replay s st t c j) before after plain tells = absurd plain
does_so (station s st c n) before after plain tells = tells
does_so (check s st t c) before after plain tells = tells
does_so (drill n m k) before after plain tells = absurd plain

module _ (job : Job) (plain : IsPlain job) (setup : Setup) (sites : SitesView)
    (before now after : HostView) (read : AreRead job setup sites before now) where
  -- What is appended behind the files is appended from the first.
  stopped_from : LeavesJournal now after → WhereTold now inputs.Capture (λ capture.
      AppendsPlainBegun job setup sites.stations capture now after)
      → StopsInTelling job before after
  stopped_from journal begun = record {
    journal = journal ∙ read.at_turn.outputs Journal;
    output = inr (record {
      setup = setup;
      stations = sites.stations;
      table = read.table;
      setup_is = read.stated.setup_is;
      stations_are = read.stated.stations_are;
      begun = λ capture told.
          let (bytes, begins, appended) =
          begun capture (read.at_turn.inputs inputs.Capture (omega arith) ∙ told) in (
            bytes,
            begins,
            subst (λ held. Appends held (after.held Out) bytes) (read.at_turn.outputs Out)
                appended,
          );
    });
  }

  told_from : WhereTold now inputs.Capture (λ capture.
      AppendsPlain job setup sites.stations capture now after) → TellsFiles job before after
  told_from tells = record {
    setup = setup;
    stations = sites.stations;
    table = read.table;
    setup_is = read.stated.setup_is;
    stations_are = read.stated.stations_are;
    tells = λ capture told.
        let done = tells capture (read.at_turn.inputs inputs.Capture (omega arith) ∙ told) in
        record {
          text = done.text;
          text_is = done.text_is;
          appended = subst (λ held. Appends held (after.held Out) done.text)
              (read.at_turn.outputs Out) done.appended;
          journal = done.journal ∙ read.at_turn.outputs Journal;
          read = done.read;
        };
  }

  -- the work ends where the telling stops
  pub ends_in_the_telling : (fault : ReplayFault)
      → HasStoppedTelling job setup sites.stations fault now after
      → HasEnded job (status_of fault) before after
  ends_in_the_telling fault stopped = record {
    cause = caused_at job (status_of fault) before after read.files (at_the_capture job setup sites
        (status_of fault) before now after read stopped.other_inputs (cause_of fault before now
        after (read.at_turn.inputs inputs.Capture (omega arith)) stopped.read stopped.limit));
    counts = counts_from (status_of fault) before now after read.at_turn.counts
        (counts_of fault now after stopped.counts);
    appends = stops_so job fault before after plain (stopped_from stopped.journal stopped.begun);
    unused = leaves_unused_at_capture job before now after read.files read.unused
        stopped.other_inputs;
  }

  -- the work is done
  pub ends_told : WhereTold now inputs.Capture (λ capture.
      AppendsPlain job setup sites.stations capture now after) → CountsNothing now after
      → LeavesOtherInputs inputs.Capture now after → HasEnded job ends.Done before after
  ends_told tells counts left = record {
    cause = caused_at job ends.Done before after read.files (at_the_capture job setup sites
        ends.Done before now after read left refl);
    counts = counts_from ends.Done before now after read.at_turn.counts counts;
    appends = does_so job before after plain (told_from tells);
    unused = leaves_unused_at_capture job before now after read.files read.unused left;
  }
