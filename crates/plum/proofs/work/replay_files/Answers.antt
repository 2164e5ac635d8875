use Rattle.std.proofs.Common.{Err, ap}
use Rattle.std.proofs.lemmas.Result.{err_from_is_err_and}
use Rattle.plum.proofs.Commands.{replay_uses_files, replay_uses_targets}
use Rattle.plum.proofs.Endings.{ends_behind_the_files, ends_done, ends_in_the_replay}
use Rattle.plum.proofs.Turns.{comes_to_capture}
use Rattle.plum.proofs.work.replay_files.Goals as goal

pub returns-in_err-stated-clause-ended : goal.returns-in_err-stated-clause-ended
returns-in_err-stated-clause-ended g c =
    let p = err_from_is_err_and c.from_residual.result c.from_residual.ensures.1 in
    rw (p.1, p.2) (λ job is. c.in_err-stated.ensures.ended job (replay_uses_files job is)
    (replay_uses_targets job is))

pub returns-in_err-centre-clause-ended : goal.returns-in_err-centre-clause-ended
returns-in_err-centre-clause-ended g c =
    let p = err_from_is_err_and c.from_residual-in_err-centre.result
    c.from_residual-in_err-centre.ensures.1 in
    let first = g.H.Host.told c.args.host.now in
    let stated = c.in_ok-stated.stated in
    rw (p.1, p.2) (λ job is.
    let read = c.in_ok-stated.ensures.read job (replay_uses_files job is)
    (replay_uses_targets job is) in
    ends_behind_the_files job first (g.H.Host.told c.load_files.new.host)
    (replay_uses_files job is) (comes_to_capture job first stated.setup stated.sites read.stated)
    read.at_turn read.unused)

pub returns-in_err-replayed-clause-ended : goal.returns-in_err-replayed-clause-ended
returns-in_err-replayed-clause-ended g c =
    let p = err_from_is_err_and c.from_residual-in_err-replayed.result
    c.from_residual-in_err-replayed.ensures.1 in
    let at = g.H.Host.told in
    let stated = c.in_ok-stated.stated in
    let e = c.in_err-replayed.ensures in
    rw (p.1, p.2) (λ job is. ends_in_the_replay job is stated.setup stated.sites _
    (at c.args.host.now) (at c.load_files.new.host) (at c.replay-replayed.new.host)
    (c.in_ok-stated.ensures.read job (replay_uses_files job is) (replay_uses_targets job is))
    (record {
      read = λ same. e.read (ap (λ f. Err f) same);
      limit = λ same. e.limit (ap (λ f. Err f) same);
      begun = e.in_order;
      counts = e.fault;
      other_inputs = e.other_inputs;
    }))

pub returns-clause-done : goal.returns-clause-done
returns-clause-done g c = λ job is.
    let at = g.H.Host.told in
    let stated = c.in_ok-stated.stated in
    let e = c.in_ok-replayed.ensures in
    ends_done job is stated.setup stated.sites c.in_ok-replayed.field-0 (at c.args.host.now)
    (at c.load_files.new.host) (at c.replay-replayed.new.host)
    (c.in_ok-stated.ensures.read job (replay_uses_files job is) (replay_uses_targets job is))
    e.texts e.sums e.no_fault
    e.other_inputs
