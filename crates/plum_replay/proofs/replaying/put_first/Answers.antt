use Rattle.std.proofs.Common.{[], ◌∷◌, refl, sym}
use Rattle.std.proofs.lemmas.Result.{err_from_is_err_and}
use Rattle.plum_host.specs.declared.host.To.TheVariants.{Out}
use Rattle.plum_replay.proofs.Stopping.{stops_at_first, stops_in_first}
use Rattle.plum_replay.proofs.Writings.{written-first, outputs_differ}
use Rattle.plum_replay.proofs.replaying.put_first.Goals as goal

-- where the round is refused memory nothing is appended
pub returns-in_err-taken-clause-in_order : goal.returns-in_err-taken-clause-in_order
returns-in_err-taken-clause-in_order g c =
    let p = err_from_is_err_and c.from_residual.result c.from_residual.ensures.1 in
    let host = g.H.Host.told c.args.host.now in
    rw p.1 (λ id setup decoded begun holds capture left taken.
    stops_at_first setup c.args.sites.now capture left c.legal_transcripts.ensures.start
    (decoded ∷ []) taken host host refl refl)

-- a write that fails within the journal lines
pub returns-in_err-put_all-clause-in_order : goal.returns-in_err-put_all-clause-in_order
returns-in_err-put_all-clause-in_order g c =
    let p = err_from_is_err_and c.from_residual-in_err-put_all.result
    c.from_residual-in_err-put_all.ensures.1 in
    let at = g.H.Host.told in
    let round = c.in_ok-taken.taken in
    rw p.1 (λ id setup decoded begun holds capture left taken.
    stops_in_first setup c.args.sites.now capture left id decoded round.journal round.counted
    c.take_first.new.progress c.take_first.new.centre (at c.args.host.now) (at c.put_all.new.host)
    (c.in_ok-taken.ensures.replays id setup decoded begun holds) taken
    (rw c.as_slice.ensures at c.in_err-put_all.ensures.front)
    (c.put_all.ensures.frame.other_output Out (λ same. outputs_differ (sym same))))

pub returns-clause-written : goal.returns-clause-written
returns-clause-written g c = λ id setup decoded begun holds.
    let at = g.H.Host.told in
    let round = c.in_ok-taken.taken in
    written-first id setup c.args.sites.now decoded round.journal round.counted
    c.take_first.new.progress c.take_first.new.centre (at c.args.host.now) (at c.put_all.new.host)
    (c.in_ok-taken.ensures.replays id setup decoded begun holds)
    (rw c.as_slice.ensures at c.in_ok-put_all.ensures.whole)
    (c.put_all.ensures.frame.other_output Out (λ same. outputs_differ (sym same)))
