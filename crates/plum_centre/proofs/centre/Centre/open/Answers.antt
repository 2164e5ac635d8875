use Rattle.std.proofs.Common.{◌≡◌, refl, sym, ap, ◌∙◌, subst}
use Rattle.plum_lanes.specs.declared.gatherer.Gather.{Gather}
use Rattle.plum_lanes.specs.Rounds.{AreNew}
use Rattle.plum_centre.specs.Centre.{CentreId}
use Rattle.plum_centre.specs.Feeder.{new_feeder}
use Rattle.plum_centre.proofs.Opened.{AreSessions-new}
use Rattle.plum_centre.proofs.centre.Centre.open.Goals as goal

pub returns-clause-new : goal.returns-clause-new
returns-clause-new g c =
    let opened = c.in-Ok.ensures in
    let lanes = c.in-Ok.lanes.items in
    let publisher = c.in_ok-publisher.publisher.publisher in
    let sessions = c.in_ok-publisher.ensures.sessions in
    let feeder = c.new-2.result in
    let gather : feeder.gather ≡ c.in-Ok.gather = ap (λ f. f.gather) c.new-2.ensures in
    let new : AreNew opened.0 lanes feeder.gather =
    subst (λ (q : Gather). AreNew opened.0 lanes q) (sym gather) opened.2 in
    let id : CentreId = record {
      opening = opened.0;
      publisher = publisher;
      sites = c.args.sites.now;
    } in (
      id,
      record { basis_is = opened.1; sites_are = refl },
      record {
        whole = record {
          lanes_are = new.whole;
          publisher_is = ap (λ f. f.publisher) c.new-2.ensures;
          sessions_are = AreSessions-new id _ sessions;
        };
        lanes_new = new;
        feeder_new = c.new-2.ensures ∙ ap (λ (q : Gather). new_feeder q publisher) (sym gather);
        sessions_new = sessions;
      },
    )
