use Rattle.std.proofs.Common.{◌-◌, ◌<◌, ◌≤◌, length}
use Rattle.plum_host.specs.Counting.{CountsNothing}
use Rattle.plum_host.specs.Frames.{OnlyReads}
use Rattle.plum_host.specs.Told.{WhereTold}
use Rattle.plum_host.proofs.Loaded.{HasLoaded}
use Rattle.plum_host.proofs.loading.load.Given as goal

abbrev pub invariant-reads : goal.invariant-reads
invariant-reads g l =
    let before = g.H.Host.told l.fn.host in
    let now = g.H.Host.told l.host in
    record {
      room : 0 < length l.piece;
      within : length l.bytes ≤ l.limit;
      loaded : WhereTold before l.file (λ all. HasLoaded all l.bytes (now.left l.file));
      counts : CountsNothing before now;
      frame : OnlyReads l.file before now;
    }

abbrev pub decreases-reads : goal.decreases-reads
decreases-reads g l = l.limit - length l.bytes
