use Rattle.std.proofs.Common.{[], sym, refl, ◌∙◌, append-nil}
use base.Growing.{prefix_refl}
use Rattle.plum_centre.proofs.feeder.Feeder.settle.Goals as goal

pub close_round-requires : goal.close_round-requires
close_round-requires c = rw (← c.self.view_is) at c.requires

pub returns-clause-stay : goal.returns-clause-stay
returns-clause-stay c =
    let closes = c.close_round.ensures.closes in
    rw (← c.self.view_is)
    record {
      keep = closes.keep;
      goes_on = record {
        more = [];
        grew = closes.same_gathered ∙ sym (append-nil _);
        noted = λ _. sym (append-nil _);
        not_before = λ allowed. allowed;
        published_more = prefix_refl _;
        same_publisher = refl;
      };
    }
