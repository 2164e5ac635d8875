use Rattle.std.proofs.Common.{◌≡◌, ◌-◌, ◌≤◌, List, ℕ, length, Some}
use Rattle.plum_base.specs.declared.sites.StationSite.{StationSite}
use Rattle.plum_host.specs.Counting.{CountsNothing}
use Rattle.plum_host.specs.Frames.{LeavesOtherInputs}
use Rattle.plum_host.specs.declared.host.In.TheVariants.{Capture}
use Rattle.plum_packet.specs.Reading.{MOST_RECORDS}
use Rattle.plum_packet.specs.declared.records.Progress.TheVariants.{Open}
use Rattle.plum.specs.Job.{Job}
use Rattle.plum.specs.Plain.{LeavesJournal}
use Rattle.plum.specs.Telling.{counted, IsOver, IsTellerOf}
use Rattle.plum.proofs.Written.{HasRead}
use Rattle.plum.proofs.telling.tell_capture.Given as goal

abbrev pub invariant-records : goal.invariant-records
invariant-records g l = record {
  progress : l.reader.records.progress ≡ Open;
  within : l.reader.records.given ≤ MOST_RECORDS;
  count : counted l.teller ≤ l.reader.records.given;
  over : IsOver l.teller (length l.sites.stations);
  same : (job : Job) (stations : List StationSite) → IsTellerOf l.fn.teller job stations
      → IsTellerOf l.teller job stations;
  read : (capture : List ℕ) → (g.H.Host.told l.fn.host).left Capture ≡ Some capture
      → HasRead l.fn.teller l.teller l.sites.stations capture l.reader
      (g.H.Host.told l.fn.host) (g.H.Host.told l.host);
  journal : LeavesJournal (g.H.Host.told l.fn.host) (g.H.Host.told l.host);
  other_inputs : LeavesOtherInputs Capture (g.H.Host.told l.fn.host) (g.H.Host.told l.host);
  counts : CountsNothing (g.H.Host.told l.fn.host) (g.H.Host.told l.host);
}

abbrev pub decreases-records : goal.decreases-records
decreases-records g l = MOST_RECORDS - l.reader.records.given
