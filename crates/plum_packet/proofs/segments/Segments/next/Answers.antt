use Rattle.std.proofs.Common.{◌≡◌, ◌∙◌, Err, ap, arith}
use Rattle.std.proofs.lemmas.Result.{err_from_is_err_and}
use Rattle.plum_host.proofs.Frames.{OnlyReads-join}
use Rattle.plum_packet.specs.declared.segments.SegmentFault.TheVariants.{Read, Limit}
use Rattle.plum_packet.proofs.Stopping.{within, exceeds}
use Rattle.plum_packet.proofs.Taking.{TakesRecords-join}
use Rattle.plum_packet.proofs.segments.Segments.next.Goals as goal

pub returns-in_err-take-clause-taken : goal.returns-in_err-take-clause-taken
returns-in_err-take-clause-taken g c =
    let p = err_from_is_err_and c.from_residual.result c.from_residual.ensures.1 in
    rw p.1 (TakesRecords-join _ _ _ _ _ _ c.bodies.invariant.taken c.in_err-take.ensures.taken)

pub returns-in_err-take-clause-read : goal.returns-in_err-take-clause-read
returns-in_err-take-clause-read g c =
    let said = c.in_err-take.ensures in
    let before = c.bodies.invariant in
    let reader = c.args.self.now in
    let p = err_from_is_err_and c.from_residual.result c.from_residual.ensures.1 in
    rw (p.1, p.2) (λ e capture segments given.
    let fault : c.in_err-take.field-0.0 ≡ Read = cc (e) in
    within capture given.bodies reader c.take.new.self _ _ reader.limit given.stands
    (TakesRecords-join _ _ _ _ _ _ before.taken said.taken)
    (omega (arith, said.limit, said.same_limit, before.limit)) (said.read (ap Err fault)))

pub returns-in_err-take-clause-over : goal.returns-in_err-take-clause-over
returns-in_err-take-clause-over g c =
    let said = c.in_err-take.ensures in
    let before = c.bodies.invariant in
    let reader = c.args.self.now in
    let p = err_from_is_err_and c.from_residual.result c.from_residual.ensures.1 in
    rw (p.1, p.2) (λ e capture segments given.
    let fault : c.in_err-take.field-0.0 ≡ Limit = cc (e) in
    let over = said.over (ap Err fault) in
    exceeds capture given.bodies reader c.take.new.self _ _ reader.limit given.stands
    (TakesRecords-join _ _ _ _ _ _ before.taken said.taken)
    (over.0 ∙ said.same_limit ∙ before.limit) over.1)

pub bodies-preserved : goal.bodies-preserved
bodies-preserved g c =
    let before = c.bodies.invariant in
    let said = c.in_ok-take.ensures in
    let more = c.if-branch.true in
    let open_still = said.still_open more in
    record {
      begun = λ capture segments given.
          let begun = before.begun capture segments given in
          said.more more capture segments begun.0 begun.2 begun.1;
      still_open = open_still;
      room = said.room more;
      listed = said.listed before.listed;
      given = omega (arith, before.given, said.bodies);
      limit = said.same_limit ∙ before.limit;
      taken = TakesRecords-join _ _ _ _ _ _ before.taken said.taken;
      no_fault = said.no_fault ∙ before.no_fault;
      frame = OnlyReads-join before.frame said.frame;
    }

pub returns-clause-some : goal.returns-clause-some
returns-clause-some g c = λ capture segments given.
    let begun = c.bodies.invariant.begun capture segments given in
    c.in_ok-take.ensures.last c.if-branch.false capture segments begun.0 begun.2 begun.1
