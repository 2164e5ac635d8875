use Rattle.std.proofs.Common.{◌≡◌, true, ap, sym, ◌∙◌, arith}
use Rattle.std.proofs.lemmas.Result.{err_from_is_err_and}
use Rattle.plum_base.specs.Sites.{SitesView}
use Rattle.plum_host.specs.declared.host.In.TheVariants as inputs
use Rattle.plum.specs.Ended.{IsAtTurn, AreRead}
use Rattle.plum.specs.Files.{IsStationFile, IsTargetFile, uses_files, uses_targets}
use Rattle.plum.specs.Job.{Job}
use Rattle.plum.proofs.Turns.{comes_to_stations, comes_to_targets, comes_to_capture, told_at_first}
use Rattle.plum.proofs.Turns.{at_stations, at_targets, at_capture, unused_before_capture}
use Rattle.plum.proofs.Endings.{ends_at_a_file, ends_behind_the_files}
use Rattle.plum.proofs.work.load_files.Given as given
use Rattle.plum.proofs.work.load_files.Goals as goal
use Rattle.plum.proofs.work.load_files.Goals.{After-new}

pub returns-in_err-stations-clause-ended : goal.returns-in_err-stations-clause-ended
returns-in_err-stations-clause-ended g c =
    let p = err_from_is_err_and c.from_residual-in_err-stations.result
    c.from_residual-in_err-stations.ensures.1 in
    let at = g.H.Host.told in
    let first = at c.args.host.now in
    rw (p.1, p.2) (λ job files same. ends_at_a_file job _ inputs.Stations first
    (at c.load_setup.new.host) (at c.load_stations.new.host) (omega arith) files files
    (comes_to_stations job first c.in_ok-setup.setup c.in_ok-setup.ensures.stated)
    (at_stations c.load_setup.ensures.frame c.in_ok-setup.ensures.no_fault)
    c.load_stations.ensures.frame c.in_err-stations.ensures.cause c.in_err-stations.ensures.fault)

pub returns-in_err-targets-clause-ended : goal.returns-in_err-targets-clause-ended
returns-in_err-targets-clause-ended g c =
    let p = err_from_is_err_and c.from_residual-in_err-targets.result
    c.from_residual-in_err-targets.ensures.1 in
    let at = g.H.Host.told in
    let first = at c.args.host.now in
    let now = at c.load_setup.new.host in
    let stations = c.in_ok-stations.stations.items in
    let so_far : IsAtTurn inputs.Stations first now =
    at_stations c.load_setup.ensures.frame c.in_ok-setup.ensures.no_fault in
    rw (p.1, p.2) (λ job files same. ends_at_a_file job _ inputs.Targets first
    (at c.load_stations.new.host) (at c.load_wanted_targets.new.host) (omega arith) files
    (same ∙ c.in_err-targets.ensures.err)
    (comes_to_targets job first c.in_ok-setup.setup stations c.in_ok-setup.ensures.stated
    (told_at_first inputs.Stations first now (IsStationFile stations) so_far
    c.in_ok-stations.ensures.stated))
    (at_targets so_far c.load_stations.ensures.frame c.in_ok-stations.ensures.no_fault)
    c.load_wanted_targets.ensures.frame c.in_err-targets.ensures.cause
    c.in_err-targets.ensures.fault)

-- Behind the stations the targets have their turn, and behind the files the capture.
stations_read : (g : given.Over) (c : After-new g)
    → IsAtTurn inputs.Targets (g.H.Host.told c.args.host.now)
    (g.H.Host.told c.load_stations.new.host)
stations_read g c =
    at_targets (at_stations c.load_setup.ensures.frame c.in_ok-setup.ensures.no_fault)
    c.load_stations.ensures.frame c.in_ok-stations.ensures.no_fault

files_read : (g : given.Over) (c : After-new g)
    → IsAtTurn inputs.Capture (g.H.Host.told c.args.host.now)
    (g.H.Host.told c.load_wanted_targets.new.host)
files_read g c =
    at_capture (stations_read g c) c.load_wanted_targets.ensures.frame
    c.in_ok-targets.ensures.no_fault

-- the sites that they state
abbrev sites_read : (g : given.Over) → After-new g → SitesView
sites_read g c = record {
  stations = c.in_ok-stations.stations.items;
  targets = c.in_ok-targets.targets.items;
}

are_read : (g : given.Over) (c : After-new g) (job : Job) → uses_files job ≡ true
    → uses_targets job ≡ c.args.with_targets
    → AreRead job c.in_ok-setup.setup (sites_read g c) (g.H.Host.told c.args.host.now)
    (g.H.Host.told c.load_wanted_targets.new.host)
are_read g c job files same =
    let at = g.H.Host.told in
    let first = at c.args.host.now in
    let now = at c.load_setup.new.host in
    let so_far : IsAtTurn inputs.Stations first now =
    at_stations c.load_setup.ensures.frame c.in_ok-setup.ensures.no_fault in
    record {
      files = files;
      stated = record {
        setup_is = c.in_ok-setup.ensures.stated;
        stations_are = told_at_first inputs.Stations first now
            (IsStationFile c.in_ok-stations.stations.items) so_far
            c.in_ok-stations.ensures.stated;
        targets_are = λ used. told_at_first inputs.Targets first (at c.load_stations.new.host)
            (IsTargetFile c.in_ok-targets.targets.items) (stations_read g c)
            (c.in_ok-targets.ensures.stated (sym same ∙ used));
      };
      table = c.thresholds.ensures.table;
      at_turn = files_read g c;
      unused = unused_before_capture job first (at c.load_stations.new.host)
          (at c.load_wanted_targets.new.host) files (stations_read g c) (files_read g c)
          (λ none. ap (λ h. (at h).left inputs.Targets)
          (c.load_wanted_targets.ensures.untouched (sym same ∙ none)));
    }

pub returns-in_err-sites-clause-ended : goal.returns-in_err-sites-clause-ended
returns-in_err-sites-clause-ended g c =
    let p = err_from_is_err_and c.from_residual-in_err-sites.result
    c.from_residual-in_err-sites.ensures.1 in
    let at = g.H.Host.told in
    let first = at c.args.host.now in
    let read = (goal.at.returns-in_err-sites-clause-ended g c).After-new in
    rw (p.1, p.2) (λ job files same.
    let are = are_read g read job files same in
    ends_behind_the_files job first (at c.load_wanted_targets.new.host) files
    (comes_to_capture job first c.in_ok-setup.setup (sites_read g read) are.stated)
    are.at_turn are.unused)

pub returns-clause-read : goal.returns-clause-read
returns-clause-read g c =
    let read = (goal.at.returns-clause-read g c).After-new in
    λ job files same. rw c.in_ok-sites.ensures (are_read g read job files same)
