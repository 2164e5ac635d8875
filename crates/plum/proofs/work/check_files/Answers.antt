use Rattle.std.proofs.Common.{Err, [], ap, refl, subst, length}
use Rattle.std.proofs.lemmas.Result.{err_from_is_err_and}
use Rattle.plum.specs.declared.teller.Teller.TheVariants.{Counting}
use Rattle.plum.specs.Tallied.{HasTallied}
use Rattle.plum.specs.Telling.{HasToldNothing}
use Rattle.plum.proofs.Commands.{check_uses_files, check_uses_targets, counts_for}
use Rattle.plum.proofs.Endings.{ends_behind_the_files}
use Rattle.plum.proofs.PlainEnds.{check_is_plain, ends_in_the_telling, ends_told}
use Rattle.plum.proofs.Turns.{comes_to_capture}
use Rattle.plum.proofs.work.check_files.Given as given
use Rattle.plum.proofs.work.check_files.Goals as goal
use Rattle.plum.proofs.work.check_files.Goals.{In_ok-tally}

pub returns-in_err-stated-clause-ended : goal.returns-in_err-stated-clause-ended
returns-in_err-stated-clause-ended g c =
    let p = err_from_is_err_and c.from_residual.result c.from_residual.ensures.1 in
    rw (p.1, p.2) (λ job is. c.in_err-stated.ensures.ended job (check_uses_files job is)
    (check_uses_targets job is))

pub returns-in_err-tally-clause-ended : goal.returns-in_err-tally-clause-ended
returns-in_err-tally-clause-ended g c =
    let p = err_from_is_err_and c.from_residual-in_err-tally.result
    c.from_residual-in_err-tally.ensures.1 in
    let first = g.H.Host.told c.args.host.now in
    let stated = c.in_ok-stated.stated in
    rw (p.1, p.2) (λ job is.
    let read = c.in_ok-stated.ensures.read job (check_uses_files job is)
    (check_uses_targets job is) in
    ends_behind_the_files job first (g.H.Host.told c.load_files.new.host)
    (check_uses_files job is) (comes_to_capture job first stated.setup stated.sites read.stated)
    read.at_turn read.unused)

-- the tally has told nothing
tells_nothing : (g : given.Over) (c : In_ok-tally g)
    → HasToldNothing (Counting c.in_ok-tally.tally) c.in_ok-stated.stated.setup
    c.in_ok-stated.stated.sites.stations
tells_nothing g c =
    let stations = c.in_ok-stated.stated.sites.stations in
    let start : HasTallied c.in_ok-tally.tally (length stations) [] =
    subst (λ l. HasTallied c.in_ok-tally.tally (length l) []) c.stations.ensures.value
    c.in_ok-tally.ensures.start in
    (start, refl)

pub returns-in_err-tell_capture-clause-ended : goal.returns-in_err-tell_capture-clause-ended
returns-in_err-tell_capture-clause-ended g c =
    let p = err_from_is_err_and c.from_residual-in_err-tell_capture.result
    c.from_residual-in_err-tell_capture.ensures.1 in
    let at = g.H.Host.told in
    let stated = c.in_ok-stated.stated in
    let tallied = (goal.at.returns-in_err-tell_capture-clause-ended g c).In_ok-tally in
    let e = c.in_err-tell_capture.ensures in
    rw (p.1, p.2) (λ job is.
    ends_in_the_telling job (check_is_plain job is) stated.setup stated.sites
    (at c.args.host.now) (at c.load_files.new.host) (at c.tell_capture.new.host)
    (c.in_ok-stated.ensures.read job (check_uses_files job is) (check_uses_targets job is)) _
    (record {
      read = λ same. e.read (ap (λ f. Err f) same);
      limit = λ same. e.limit (ap (λ f. Err f) same);
      begun = e.begun job stated.setup
          (counts_for c.in_ok-tally.tally job stated.sites.stations is)
          (tells_nothing g tallied);
      journal = c.tell_capture.ensures.journal;
      counts = e.fault;
      other_inputs = c.tell_capture.ensures.other_inputs;
    }))

pub returns-clause-done : goal.returns-clause-done
returns-clause-done g c = λ job is.
    let at = g.H.Host.told in
    let stated = c.in_ok-stated.stated in
    let tallied = (goal.at.returns-clause-done g c).In_ok-tally in
    let e = c.in_ok-tell_capture.ensures in
    ends_told job (check_is_plain job is) stated.setup stated.sites
    (at c.args.host.now) (at c.load_files.new.host) (at c.tell_capture.new.host)
    (c.in_ok-stated.ensures.read job (check_uses_files job is) (check_uses_targets job is))
    (e.text job stated.setup (counts_for c.in_ok-tally.tally job stated.sites.stations is)
    (tells_nothing g tallied)) e.no_fault c.tell_capture.ensures.other_inputs
