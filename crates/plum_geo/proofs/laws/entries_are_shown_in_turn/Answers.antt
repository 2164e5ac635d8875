use Rattle.plum_geo.proofs.Showing.{shown_after-push}
use Rattle.plum_geo.proofs.laws.entries_are_shown_in_turn.Goals as goal

pub returns : goal.returns
returns c = λ values stations entries entry before.
    shown_after-push values stations entries entry before
