use Rattle.std.proofs.Common.{[], ◌∷◌, refl, sym}
use Rattle.std.proofs.lemmas.Result.{err_from_is_err_and}
use Rattle.plum_host.specs.declared.host.To.TheVariants.{Out, Journal}
use Rattle.plum_replay.proofs.Stopping.{stops_between, stops_in_lines, stops_in_section}
use Rattle.plum_replay.proofs.Writings.{written-more, outputs_differ}
use Rattle.plum_replay.proofs.replaying.put_next.Goals as goal

-- where the round is refused memory nothing more is appended
pub returns-in_err-told-clause-in_order : goal.returns-in_err-told-clause-in_order
returns-in_err-told-clause-in_order g c =
    let p = err_from_is_err_and c.from_residual.result c.from_residual.ensures.1 in
    let host = g.H.Host.told c.args.host.now in
    rw p.1 (λ id setup done last decoded before was holds capture left taken.
    stops_between setup c.args.sites.now capture left id done last c.args.progress.now
    c.args.counted c.args.centre.now before host was (decoded ∷ []) taken host refl refl)

-- a write that fails within the journal lines of the segment
pub returns-in_err-put_all-clause-in_order : goal.returns-in_err-put_all-clause-in_order
returns-in_err-put_all-clause-in_order g c =
    let p = err_from_is_err_and c.from_residual-in_err-put_all.result
    c.from_residual-in_err-put_all.ensures.1 in
    let at = g.H.Host.told in
    let round = c.in_ok-told.told in
    rw p.1 (λ id setup done last decoded before was holds capture left taken.
    stops_in_lines setup c.args.sites.now capture left id done last c.args.progress.now
    c.args.counted c.args.centre.now before (at c.args.host.now) was decoded round.taken.journal
    round.section round.taken.counted c.take_and_read.new.progress c.take_and_read.new.centre
    (c.in_ok-told.ensures.replays id setup done last was.transcript was.sections decoded
    was.replayed holds) taken (at c.put_all.new.host)
    (rw c.as_slice.ensures at c.in_err-put_all.ensures.front)
    (c.put_all.ensures.frame.other_output Out (λ same. outputs_differ (sym same))))

-- one within the section of the mark before it
pub returns-in_err-put_all-2-clause-in_order : goal.returns-in_err-put_all-2-clause-in_order
returns-in_err-put_all-2-clause-in_order g c =
    let p = err_from_is_err_and c.from_residual-in_err-put_all-2.result
    c.from_residual-in_err-put_all-2.ensures.1 in
    let at = g.H.Host.told in
    let round = c.in_ok-told.told in
    rw p.1 (λ id setup done last decoded before was holds capture left taken.
    stops_in_section setup c.args.sites.now capture left id done last c.args.progress.now
    c.args.counted c.args.centre.now before (at c.args.host.now) was decoded round.taken.journal
    round.section round.taken.counted c.take_and_read.new.progress c.take_and_read.new.centre
    (c.in_ok-told.ensures.replays id setup done last was.transcript was.sections decoded
    was.replayed holds) taken (at c.put_all.new.host) (at c.put_all-2.new.host)
    (rw c.as_slice.ensures at c.in_ok-put_all.ensures.whole)
    (c.put_all.ensures.frame.other_output Out (λ same. outputs_differ (sym same)))
    (rw c.as_slice-2.ensures at c.in_err-put_all-2.ensures.front)
    (c.put_all-2.ensures.frame.other_output Journal outputs_differ))

pub returns-clause-written : goal.returns-clause-written
returns-clause-written g c = λ id setup done last decoded before was holds.
    let at = g.H.Host.told in
    let round = c.in_ok-told.told in
    written-more id setup c.args.sites.now done last decoded c.args.progress.now
    c.take_and_read.new.progress c.args.counted round.taken.counted c.args.centre.now
    c.take_and_read.new.centre round.taken.journal round.section before (at c.args.host.now)
    (at c.put_all.new.host) (at c.put_all-2.new.host) was
    (c.in_ok-told.ensures.replays id setup done last was.transcript was.sections decoded
    was.replayed holds)
    (rw c.as_slice.ensures at c.in_ok-put_all.ensures.whole)
    (c.put_all.ensures.frame.other_output Out (λ same. outputs_differ (sym same)))
    (rw c.as_slice-2.ensures at c.in_ok-put_all-2.ensures.whole)
    (c.put_all-2.ensures.frame.other_output Journal outputs_differ)
