use Rattle.std.proofs.Common.{◌≡◌, length}
use Rattle.plum_host.specs.Frames.{OnlyWrites}
use Rattle.plum_host.proofs.Pieces.{HasPut}
use Rattle.plum_host.proofs.put.put_all.Given as goal

abbrev pub invariant-loop-rest : goal.invariant-loop-rest
invariant-loop-rest g l =
    let before = g.H.Host.told l.fn.host in
    let now = g.H.Host.told l.host in
    record {
      put : HasPut (before.held l.file) (now.held l.file) l.bytes l.rest;
      no_fault : now.write_faults ≡ before.write_faults;
      frame : OnlyWrites l.file before now;
    }

abbrev pub decreases-loop-rest : goal.decreases-loop-rest
decreases-loop-rest g l = length l.rest
