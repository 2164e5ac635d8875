use Rattle.std.proofs.Common.{◌≡◌, length, sym, ap, ◌∙◌, subst}
use Rattle.std.proofs.lemmas.List.{with_items_is}
use Rattle.std.specs.Vec.{with_items}
use Rattle.plum_trials_lanes.specs.AtWork.{AreAtWork, IsOf}
use Rattle.plum_trials_lanes.proofs.Working.{AreSomeLanes-at_work, AreAtWork-stay}
use Rattle.plum_trials_lanes.proofs.handing.Opened.round.Goals as goal

pub side_by_side-requires-clause-lanes : goal.side_by_side-requires-clause-lanes
side_by_side-requires-clause-lanes g c κs within =
    let is = c.requires in
    let slice : c.as_mut_slice-lanes.result.now ≡ c.args.self.now.lanes.items =
    c.as_mut_slice-lanes.ensures.value in
    let shape : IsOf c.args.self.now.stations (length c.as_slice-count.result.now) is.opening =
    (is.shape.0, is.shape.1 ∙ sym (ap length c.as_slice-count.ensures.value)) in
    AreSomeLanes-at_work is.opening _ _ _ shape
    (subst (AreAtWork is.opening) (sym slice) is.at_work)

pub close-requires : goal.close-requires
close-requires g c =
    let is = c.requires in
    let start = c.args.self.now.lanes in
    let slice : c.as_mut_slice-lanes.result.now ≡ start.items =
    c.as_mut_slice-lanes.ensures.value in
    let shape : IsOf c.args.self.now.stations (length c.as_slice-count.result.now) is.opening =
    (is.shape.0, is.shape.1 ∙ sym (ap length c.as_slice-count.ensures.value)) in
    let long : length c.side_by_side.new.lanes ≡ length start.items =
    c.side_by_side.auto.lanes ∙ ap length slice in
    let now : (with_items start c.side_by_side.new.lanes).items ≡ c.side_by_side.new.lanes =
    with_items_is start c.side_by_side.new.lanes (long ∙ sym start.ok.0) in
    record {
      opening = is.opening;
      shape = (is.shape.0, is.shape.1 ∙ sym (ap length now ∙ long));
      at_work =
          subst (AreAtWork is.opening) (sym now)
          (AreAtWork-stay is.opening _ _ _ _ shape c.side_by_side.auto.lanes
          c.side_by_side.ensures.lanes (subst (AreAtWork is.opening) (sym slice) is.at_work));
      gather_is = c.side_by_side.ensures.gather.stays is.opening is.gather_is;
    }
