use Rattle.std.proofs.lemmas.Result.{err_from_is_err_and}
use Rattle.plum_host.specs.declared.host.To.TheVariants.{Journal}
use Rattle.plum_replay.proofs.Endings.{end_text, ends_so, written-end}
use Rattle.plum_replay.proofs.Stopping.{stops_after_all, stops_at_end}
use Rattle.plum_replay.proofs.Writings.{outputs_differ}
use Rattle.plum_replay.proofs.replaying.put_last.Goals as goal

-- where memory is refused nothing more is appended
pub returns-in_err-output-clause-in_order : goal.returns-in_err-output-clause-in_order
returns-in_err-output-clause-in_order g c =
    let p = err_from_is_err_and c.from_residual.result c.from_residual.ensures.1 in
    let host = g.H.Host.told c.args.host.now in
    let ended = c.args.ended in
    rw p.1 (λ id setup done last before was capture left all.
    stops_after_all setup c.args.sites.now capture left id done last c.args.progress.now
    ended.counted c.args.centre.now before host was ended.tail all)

pub returns-in_err-put_end-clause-in_order : goal.returns-in_err-put_end-clause-in_order
returns-in_err-put_end-clause-in_order g c =
    let p = err_from_is_err_and c.from_residual-in_err-put_end.result
    c.from_residual-in_err-put_end.ensures.1 in
    let host = g.H.Host.told c.args.host.now in
    let ended = c.args.ended in
    rw p.1 (λ id setup done last before was capture left all.
    stops_after_all setup c.args.sites.now capture left id done last c.args.progress.now
    ended.counted c.args.centre.now before host was ended.tail all)

-- a write that fails within the end of the output
pub returns-in_err-put_all-clause-in_order : goal.returns-in_err-put_all-clause-in_order
returns-in_err-put_all-clause-in_order g c =
    let p = err_from_is_err_and c.from_residual-in_err-put_all.result
    c.from_residual-in_err-put_all.ensures.1 in
    let at = g.H.Host.told in
    let sites = c.args.sites.now in
    let ended = c.args.ended in
    let text = c.in_ok-output.output in
    let totals = c.totals-totals.result in
    let of = c.totals-totals.ensures in
    let after = c.read_last.new.progress in
    let centre = c.read_last.new.centre in
    rw p.1 (λ id setup done last before was capture left all.
    let more = c.in_ok-output.ensures.ends id setup done last was.transcript was.sections
    was.replayed in
    let ends = ends_so id setup sites done last c.args.progress.now after ended.counted
    c.args.centre.now centre before (at c.args.host.now) was text more totals ended.tail
    of.segments of.counts of.tail in
    stops_at_end setup sites capture left id done last c.args.progress.now ended.counted
    c.args.centre.now before (at c.args.host.now) was text after centre more ended.tail all
    (end_text totals) ends (at c.put_all.new.host)
    (rw (c.as_slice.ensures, c.in_ok-put_end.ensures) at c.in_err-put_all.ensures.front)
    (c.put_all.ensures.frame.other_output Journal outputs_differ))

pub returns-clause-written : goal.returns-clause-written
returns-clause-written g c = λ id setup done last before was.
    let at = g.H.Host.told in
    let sites = c.args.sites.now in
    let ended = c.args.ended in
    let text = c.in_ok-output.output in
    let of = c.totals-totals.ensures in
    let more = c.in_ok-output.ensures.ends id setup done last was.transcript was.sections
    was.replayed in
    written-end id setup sites done last c.args.progress.now c.read_last.new.progress
    ended.counted c.args.centre.now c.read_last.new.centre before (at c.args.host.now) was text
    more c.totals-totals.result ended.tail of.segments of.counts of.tail (at c.put_all.new.host)
    (rw (c.as_slice.ensures, c.in_ok-put_end.ensures) at c.in_ok-put_all.ensures.whole)
    (c.put_all.ensures.frame.other_output Journal outputs_differ)

pub returns-clause-at : goal.returns-clause-at
returns-clause-at g c = λ id setup earlier is.
    (c.in_ok-output.ensures.at id setup earlier is).between
