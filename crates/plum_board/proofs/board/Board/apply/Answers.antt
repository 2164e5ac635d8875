use Rattle.std.proofs.Common.{List, [], ◌∷◌, ◌++◌, length, Option, sym, subst, arith}
use Rattle.std.proofs.lemmas.List.{length_push}
use Rattle.plum_base.specs.declared.numbers.Tenths.{Tenths}
use Rattle.plum_geo.specs.Shown.{AreShown}
use Rattle.plum_board.proofs.board.Board.apply.Goals as goal

pub returns-clause-stands : goal.returns-clause-stands
returns-clause-stands c = λ sites entries stands.
    let before = rw (← c.self.view_is) at stands in
    let entry = c.args.entry.now in
    let stations = length sites.stations in
    record {
      same_sites = before.same_sites;
      shown =
          subst (λ (vs : List (Option Tenths)). AreShown vs stations (entries ++ entry ∷ []))
          (sym c.show.ensures.values)
          (c.entries_are_shown_in_turn.ensures c.self.inside.pyramid.values stations entries entry
          before.shown);
      counted = omega (arith, length_push entries entry);
    }
