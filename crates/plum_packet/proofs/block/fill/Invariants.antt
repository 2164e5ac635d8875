use Rattle.std.proofs.Common.{◌≡◌, ◌-◌, ◌≤◌, take}
use Rattle.plum_host.specs.declared.host.In.TheVariants.{Capture}
use Rattle.plum_host.specs.Frames.{OnlyReads}
use Rattle.plum_packet.specs.Capture.{LONGEST_RECORD}
use Rattle.plum_packet.specs.Record.{MovesFront}
use Rattle.plum_packet.proofs.block.fill.Given as goal

abbrev pub invariant-reads : goal.invariant-reads
invariant-reads g l =
    let before = g.H.Host.told l.fn.host in
    let now = g.H.Host.told l.host in
    record {
      filled : l.filled ≤ LONGEST_RECORD;
      taken : MovesFront (take l.fn.filled l.fn.buffer) (before.left Capture)
          (take l.filled l.buffer) (now.left Capture);
      no_fault : now.read_faults ≡ before.read_faults;
      frame : OnlyReads Capture before now;
    }

abbrev pub decreases-reads : goal.decreases-reads
decreases-reads g l = LONGEST_RECORD - l.filled
