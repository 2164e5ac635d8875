use Rattle.std.proofs.Common.{Err, ap}
use Rattle.std.proofs.lemmas.Result.{err_from_is_err_and}
use Rattle.plum.proofs.DrillEnds.{ends_in_writing, ends_unwritten, ends_written}
use Rattle.plum.proofs.work.show_drill.Goals as goal

pub returns-in_err-summary-clause-ended : goal.returns-in_err-summary-clause-ended
returns-in_err-summary-clause-ended g c =
    let p = err_from_is_err_and c.from_residual.result c.from_residual.ensures.1 in
    rw (p.1, p.2)
    (ends_unwritten c.args.seed c.args.stations c.args.seconds (g.H.Host.told c.args.host.now))

pub returns-in_err-put_all-clause-ended : goal.returns-in_err-put_all-clause-ended
returns-in_err-put_all-clause-ended g c =
    let p = err_from_is_err_and c.from_residual-in_err-put_all.result
    c.from_residual-in_err-put_all.ensures.1 in
    let at = g.H.Host.told in
    let e = c.in_err-put_all.ensures in
    rw (p.1, p.2)
    (ends_in_writing c.args.seed c.args.stations c.args.seconds c.in_ok-summary.summary
    c.in_ok-summary.ensures (at c.args.host.now) (at c.put_all.new.host) c.put_all.ensures.frame _
    (rw c.as_slice.ensures at e.front) (λ same. e.failed (ap (λ f. Err f) same))
    (λ same. e.no_memory (ap (λ f. Err f) same)))

pub returns-clause-done : goal.returns-clause-done
returns-clause-done g c =
    let at = g.H.Host.told in
    let e = c.in_ok-put_all.ensures in
    ends_written c.args.seed c.args.stations c.args.seconds c.in_ok-summary.summary
    c.in_ok-summary.ensures (at c.args.host.now) (at c.put_all.new.host) c.put_all.ensures.frame
    (rw c.as_slice.ensures at e.whole) e.no_fault
