use Rattle.std.proofs.Common.{◌-◌, ◌≤◌, length, take, drop, ◌∙◌, arith}
use Rattle.std.proofs.Common.{length-take, length-drop}
use Rattle.std.proofs.lemmas.Result.{err_from_is_err_and}
use Rattle.plum_host.proofs.Frames.{OnlyReads-join}
use Rattle.plum_packet.specs.Capture.{HasRecord}
use Rattle.plum_packet.proofs.Pieces.{take-put_mid_front, take_put_mid, MovesFront-more}
use Rattle.plum_packet.proofs.block.fill.Goals as goal

-- where a read fails, no record is whole
pub returns-in_err-count-clause-short : goal.returns-in_err-count-clause-short
returns-in_err-count-clause-short g c =
    let at = c.reads in
    let exit = err_from_is_err_and c.from_residual.result c.from_residual.ensures.1 in
    let room = length at.buffer - at.filled in
    let same = take_put_mid at.filled room at.buffer c.read.new.buf (omega arith) in
    let none : ¬ HasRecord (take at.filled at.buffer) =
    λ has. absurd (cc (c.starts_whole.ensures.whole.1 has, c.if-starts_whole.false)) in
    rw (exit.1, same) none

pub reads-preserved : goal.reads-preserved
reads-preserved g c =
    let at = c.reads in
    let h = at.invariant in
    let read = c.in_ok-count.ensures in
    let piece = c.read.new.buf in
    let count = c.in_ok-count.count in
    let room = length at.buffer - at.filled in
    let some : count ≤ length piece = omega (arith, read.count) in
    let behind = length-drop at.filled at.buffer in
    let few : count ≤ room =
    omega (arith, read.count, behind, length-take room (drop at.filled at.buffer)) in
    let more = take-put_mid_front at.filled room count at.buffer piece (omega arith) some in
    record {
      filled = omega arith;
      taken = rw more (MovesFront-more _ _ piece count _ _ _ h.taken read.taken);
      no_fault = read.no_fault ∙ h.no_fault;
      frame = OnlyReads-join h.frame read.frame;
    }
