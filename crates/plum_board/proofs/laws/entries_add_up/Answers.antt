use Rattle.std.proofs.Common.{length, arith}
use Rattle.std.proofs.lemmas.List.{length_push}
use Rattle.plum_board.proofs.laws.entries_add_up.Goals as goal

pub returns : goal.returns
returns c = λ board sites entries entry stands.
    record {
      same_sites = stands.same_sites;
      shown =
          c.entries_are_shown_in_turn.ensures board.values (length sites.stations) entries entry
          stands.shown;
      counted = omega (arith, stands.counted, length_push entries entry);
    }
