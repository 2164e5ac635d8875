use Rattle.std.proofs.Common.{◌≡◌, ◌≢◌, ◌+◌, ◌≤◌, List, []}
use Rattle.plum_base.specs.declared.packet.Packet.{Packet}
use Rattle.plum_base.specs.declared.setup.Setup.{Setup}
use Rattle.plum_centre.specs.Centre.{CentreId}
use Rattle.plum_host.specs.declared.host.In.TheVariants.{Capture}
use Rattle.plum_host.specs.Counting.{CountsNothing}
use Rattle.plum_host.specs.Frames.{LeavesOtherInputs}
use Rattle.plum_host.specs.Told.{WhereTold}
use Rattle.plum_packet.specs.declared.records.Progress.TheVariants.{Over}
use Rattle.plum_packet.specs.Reading.{MOST_RECORDS}
use Rattle.plum_packet.specs.Records.{segments_left}
use Rattle.plum_replay.specs.Progress.{IsAt, IsProgressOf, HasBegun}
use Rattle.plum_replay.proofs.Segmented.{HasGone, HasRead}
use Rattle.plum_replay.proofs.replaying.put_segments.Given as goal

abbrev pub invariant-rounds : goal.invariant-rounds
invariant-rounds g l =
    let first = g.H.Host.told l.fn.host in
    let now = g.H.Host.told l.host in
    record {
      of : IsProgressOf l.progress l.sites;
      at : (id : CentreId) (setup : Setup) → IsAt id setup l.sites [] l.fn.progress l.fn.centre
          → (packets : List Packet) × IsAt id setup l.sites packets l.progress l.centre;
      limit : l.reader.limit ≡ MOST_RECORDS;
      within : l.reader.given ≤ MOST_RECORDS;
      going : l.reader.progress ≢ Over;
      bodies : l.progress.counts.bodies ≤ l.reader.given;
      segments : l.progress.segments + segments_left l.reader ≤ MOST_RECORDS + 1;
      given : WhereTold first Capture (HasGone l.sites l.reader now);
      read : (id : CentreId) (setup : Setup) → HasBegun id setup l.sites l.fn.progress l.fn.centre
          → WhereTold first Capture (HasRead id setup l.sites l.progress l.counted l.centre
          l.reader first now);
      counts : CountsNothing first now;
      other_inputs : LeavesOtherInputs Capture first now;
    }

abbrev pub decreases-rounds : goal.decreases-rounds
decreases-rounds g l = segments_left l.reader
