use Rattle.std.proofs.Common.{◌≡◌, ◌<◌, length, sym, ap, ◌∙◌, subst}
use Rattle.std.proofs.lemmas.List.{with_items_is}
use Rattle.std.specs.Vec.{with_items}
use Rattle.plum_lanes.specs.Rounds.{AreWhole}
use Rattle.plum_trials_lanes.specs.AtWork.{AreAtWork}
use Rattle.plum_trials_lanes.proofs.Working.{AreWhole-open}
use Rattle.plum_trials_lanes.proofs.handing.Opened.close.Goals as goal

pub close_round-requires : goal.close_round-requires
close_round-requires c =
    let is = c.requires in (
      is.opening,
      subst (λ lanes. AreWhole is.opening lanes c.args.self.now.gather)
          (sym c.as_mut_slice.ensures.value) (AreWhole-open _ _ _ is),
    )

pub returns : goal.returns
returns c =
    let is = c.requires in
    let slice : c.as_mut_slice.result.now ≡ c.args.self.now.lanes.items =
    c.as_mut_slice.ensures.value in
    let work = subst (AreAtWork is.opening) (sym slice) is.at_work in
    let whole = subst (λ lanes. AreWhole is.opening lanes c.args.self.now.gather) (sym slice)
    (AreWhole-open _ _ _ is) in
    let same = c.close_round.ensures.closes.keep.same in
    let start = c.args.self.now.lanes in
    let long : length c.close_round.new.lanes ≡ length start.items =
    same.long ∙ ap length slice in
    let now : (with_items start c.close_round.new.lanes).items
    ≡ c.close_round.new.lanes =
    with_items_is start c.close_round.new.lanes (long ∙ sym start.ok.0) in
    let at_work : AreAtWork is.opening c.close_round.new.lanes = λ i d less.
    let less' = subst (λ n. i < n) same.long less in
    let lane = work i d less' in
    record {
      packets = lane.packets;
      taken = c.close_round.ensures.closes.keep.taken is.opening whole i d lane.packets less'
          lane.taken;
    } in
    record {
      opening = is.opening;
      shape = (is.shape.0, is.shape.1 ∙ sym (ap length now ∙ long));
      at_work = subst (AreAtWork is.opening) (sym now) at_work;
      gather_is = (c.close_round.ensures.closes.keep.whole is.opening whole).gather_is;
    }
