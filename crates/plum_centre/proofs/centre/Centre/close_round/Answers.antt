use Rattle.std.proofs.Common.{◌≡◌, List, length, sym, ap, ◌∙◌, subst}
use Rattle.std.proofs.lemmas.List.{with_items_is}
use Rattle.std.specs.Vec.{with_items}
use Rattle.plum_lanes.specs.declared.lanes.Lane.{Lane}
use Rattle.plum_lanes.specs.Rounds.{AreWhole}
use Rattle.plum_centre.proofs.centre.Centre.close_round.Goals as goal

pub close-requires-clause-whole : goal.close-requires-clause-whole
close-requires-clause-whole g c =
    let id = c.requires.whole.0 in (
      id.opening,
      subst (λ (ls : List Lane). AreWhole id.opening ls c.args.self.now.feeder.gather)
          (sym c.as_mut_slice.ensures.value) c.requires.whole.1.lanes_are,
    )

pub returns-clause-whole : goal.returns-clause-whole
returns-clause-whole g c = λ id whole.
    let start = c.args.self.now.lanes in
    let stay = c.close.ensures.stay in
    let value : c.as_mut_slice.result.now ≡ start.items = c.as_mut_slice.ensures.value in
    let long : length c.close.new.lanes ≡ length start.items =
    stay.keep.same.long ∙ ap length value in
    let now : (with_items start c.close.new.lanes).items ≡ c.close.new.lanes =
    with_items_is start c.close.new.lanes (long ∙ sym start.ok.0) in
    record {
      lanes_are =
          subst (λ (ls : List Lane). AreWhole id.opening ls c.close.new.feeder.gather) (sym now)
          (stay.keep.whole id.opening
          (subst (λ (ls : List Lane). AreWhole id.opening ls c.args.self.now.feeder.gather)
          (sym value) whole.lanes_are));
      publisher_is = stay.goes_on.same_publisher ∙ whole.publisher_is;
      sessions_are = whole.sessions_are;
    }
