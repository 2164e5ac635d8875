-- How the work of a drill ends.
use Rattle.std.proofs.Common.{◌≡◌, ℕ, List, drop, take, inr, refl, take-append-drop}
use Rattle.plum_host.specs.declared.host.To.TheVariants.{Out, Journal}
use Rattle.plum_host.specs.declared.host.WriteRefusal.{WriteRefusal}
use Rattle.plum_host.specs.declared.host.WriteRefusal.TheVariants as refusals
use Rattle.plum_host.specs.Faults.{HasRisen}
use Rattle.plum_host.specs.Frames.{OnlyWrites}
use Rattle.plum_host.specs.Told.{HostView, Appends, AppendsFront}
use Rattle.plum_replay.proofs.Stopping.{front_of}
use Rattle.plum_replay.specs.Faults.{fault_of_write}
use Rattle.plum.specs.declared.status.Status.TheVariants as ends
use Rattle.plum.specs.DrillSummary.{IsDrillSummary, StopsInDrill}
use Rattle.plum.specs.Ended.{HasEnded}
use Rattle.plum.specs.Job.{drill}
use Rattle.plum.specs.Status.{status_of}
use Rattle.plum.proofs.Endings.{broke_off_quietly, nothing_appended}

module _ (seed stations seconds : ℕ) where
  -- memory is short before anything is written
  pub ends_unwritten : (host : HostView) → HasEnded
      (drill seed stations seconds) ends.NoMemory host host
  ends_unwritten host = record {
    cause = tt;
    counts = record { reads = refl; writes = refl };
    appends = broke_off_quietly (drill seed stations seconds) host host
        (nothing_appended host host (λ to. refl)) refl;
    unused = λ input none. refl;
  }

  module _ (text : List ℕ) (is : IsDrillSummary seed stations seconds text)
      (before after : HostView) (frame : OnlyWrites Out before after) where
    -- the summary is written
    pub ends_written : Appends (before.held Out) (after.held Out) text
        → after.write_faults ≡ before.write_faults
        → HasEnded (drill seed stations seconds) ends.Done before after
    ends_written appended counts = record {
      cause = tt;
      counts = record { reads = frame.read_faults; writes = counts };
      appends = record {
        text = text;
        text_is = is;
        appended = appended;
        journal = frame.other_output Journal (λ same. cc);
      };
      unused = λ input none. frame.inputs input;
    }

    -- a beginning of it is
    stops : AppendsFront (before.held Out) (after.held Out) text
        → StopsInDrill seed stations seconds before after
    stops front =
        let part = front_of (before.held Out) (after.held Out) text front in
        record {
          journal = frame.other_output Journal (λ same. cc);
          output = inr (
            take part.0 text,
            text,
            is,
            (drop part.0 text, take-append-drop part.0 text),
            part.1,
          );
        }

    pub ends_in_writing : (refusal : WriteRefusal)
        → AppendsFront (before.held Out) (after.held Out) text
        → (refusal ≡ refusals.Failed → HasRisen before.write_faults after.write_faults)
        → (refusal ≡ refusals.NoMemory → after.write_faults ≡ before.write_faults)
        → HasEnded (drill seed stations seconds) (status_of (fault_of_write refusal)) before after
    ends_in_writing refusals.Failed front failed no_memory = record {
      cause = tt;
      counts = record { reads = frame.read_faults; writes = failed refl };
      appends = stops front;
      unused = λ input none. frame.inputs input;
    }
    ends_in_writing refusals.NoMemory front failed no_memory = record {
      cause = tt;
      counts = record { reads = frame.read_faults; writes = no_memory refl };
      appends = stops front;
      unused = λ input none. frame.inputs input;
    }
