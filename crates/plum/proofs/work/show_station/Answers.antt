use Rattle.std.proofs.Common.{Err, [], ap, refl, sym, subst, length}
use Rattle.std.proofs.lemmas.Result.{err_from_is_err_and}
use Rattle.plum_base.specs.Sites.{IsFoundAt}
use Rattle.plum.specs.declared.teller.Teller.TheVariants.{Watching}
use Rattle.plum.specs.Job.{Job, IsStation}
use Rattle.plum.specs.Telling.{HasToldNothing, IsTellerOf}
use Rattle.plum.proofs.Commands.{found_at, station_uses_files, station_uses_none, watches_for}
use Rattle.plum.proofs.Endings.{ends_behind_the_files}
use Rattle.plum.proofs.PlainEnds.{ends_in_the_telling, ends_told, station_is_plain}
use Rattle.plum.proofs.Turns.{comes_to_capture}
use Rattle.plum.proofs.work.show_station.Given as given
use Rattle.plum.proofs.work.show_station.Goals as goal
use Rattle.plum.proofs.work.show_station.Goals.{In_ok-watch}

pub returns-in_err-stated-clause-ended : goal.returns-in_err-stated-clause-ended
returns-in_err-stated-clause-ended g c =
    let p = err_from_is_err_and c.from_residual.result c.from_residual.ensures.1 in
    rw (p.1, p.2) (λ job is.
    c.in_err-stated.ensures.ended job (station_uses_files c.args.code job is)
    (station_uses_none c.args.code job is))

pub returns-in_err-watch-clause-ended : goal.returns-in_err-watch-clause-ended
returns-in_err-watch-clause-ended g c =
    let p = err_from_is_err_and c.from_residual-in_err-watch.result
    c.from_residual-in_err-watch.ensures.1 in
    let first = g.H.Host.told c.args.host.now in
    let stated = c.in_ok-stated.stated in
    rw (p.1, p.2) (λ job is.
    let read = c.in_ok-stated.ensures.read job (station_uses_files c.args.code job is)
    (station_uses_none c.args.code job is) in
    ends_behind_the_files job first (g.H.Host.told c.load_files.new.host)
    (station_uses_files c.args.code job is) (comes_to_capture job first stated.setup stated.sites
    read.stated) read.at_turn read.unused)

-- the watch is that of the station of this code
watches : (g : given.Over) (c : In_ok-watch g) (job : Job) → IsStation c.args.code job
    → IsTellerOf (Watching c.in_ok-watch.watch) job c.in_ok-stated.stated.sites.stations
watches g c job is =
    let stations = c.in_ok-stated.stated.sites.stations in
    watches_for c.in_ok-watch.watch c.args.code job stations is
    (subst (λ n. IsFoundAt stations c.args.code n) (sym c.in_ok-watch.ensures.number)
    (found_at stations c.args.code c.find.result c.find.ensures.found c.find.ensures.none))

-- it has told nothing
tells_nothing : (g : given.Over) (c : In_ok-watch g)
    → HasToldNothing (Watching c.in_ok-watch.watch) c.in_ok-stated.stated.setup
    c.in_ok-stated.stated.sites.stations
tells_nothing g c =
    ([], c.in_ok-watch.ensures.start (length c.in_ok-stated.stated.sites.stations), refl)

pub returns-in_err-tell_capture-clause-ended : goal.returns-in_err-tell_capture-clause-ended
returns-in_err-tell_capture-clause-ended g c =
    let p = err_from_is_err_and c.from_residual-in_err-tell_capture.result
    c.from_residual-in_err-tell_capture.ensures.1 in
    let at = g.H.Host.told in
    let stated = c.in_ok-stated.stated in
    let watched = (goal.at.returns-in_err-tell_capture-clause-ended g c).In_ok-watch in
    let e = c.in_err-tell_capture.ensures in
    rw (p.1, p.2) (λ job is.
    ends_in_the_telling job (station_is_plain c.args.code job is) stated.setup stated.sites
    (at c.args.host.now) (at c.load_files.new.host) (at c.tell_capture.new.host)
    (c.in_ok-stated.ensures.read job (station_uses_files c.args.code job is)
    (station_uses_none c.args.code job is)) _ (record {
      read = λ same. e.read (ap (λ f. Err f) same);
      limit = λ same. e.limit (ap (λ f. Err f) same);
      begun = e.begun job stated.setup (watches g watched job is) (tells_nothing g watched);
      journal = c.tell_capture.ensures.journal;
      counts = e.fault;
      other_inputs = c.tell_capture.ensures.other_inputs;
    }))

pub returns-clause-done : goal.returns-clause-done
returns-clause-done g c = λ job is.
    let at = g.H.Host.told in
    let stated = c.in_ok-stated.stated in
    let watched = (goal.at.returns-clause-done g c).In_ok-watch in
    let e = c.in_ok-tell_capture.ensures in
    ends_told job (station_is_plain c.args.code job is) stated.setup stated.sites
    (at c.args.host.now) (at c.load_files.new.host) (at c.tell_capture.new.host)
    (c.in_ok-stated.ensures.read job (station_uses_files c.args.code job is)
    (station_uses_none c.args.code job is))
    (e.text job stated.setup (watches g watched job is) (tells_nothing g watched)) e.no_fault
    c.tell_capture.ensures.other_inputs
