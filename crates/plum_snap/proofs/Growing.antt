-- A snapshot with an entry more.
use Rattle.std.proofs.Common.{◌≡◌, ◌∙◌, List, [], ◌∷◌, ◌++◌, sym, ap, subst}
use mathlib.Core.List.{IsPrefix}
use Rattle.plum_base.specs.declared.entry.Entry.{Entry}
use Rattle.plum_board.specs.Board.{StandsFor, StandsForOneMore, board_after}
use Rattle.plum_snap.specs.declared.snapshot.Snapshot.{Snapshot}
use Rattle.plum_snap.specs.declared.snapshot.Addition.{Addition}
use Rattle.plum_snap.specs.Snapshots.{Grows, snapshot_after}
use base.Growing.{prefix_trans}
use Rattle.plum_snap.proofs.Fronts.{prefix_drop}

pub grows_more : (x y : Snapshot) (a : Addition) → StandsForOneMore → Grows x y
    → a.front ≡ record y.front { entries = y.front.entries ++ a.entry ∷ [] }
    → Grows x (snapshot_after y a)
grows_more x y a law g is =
    let longer : a.front.entries ≡ y.front.entries ++ a.entry ∷ [] = ap (λ f. f.entries) is in
    let before : IsPrefix x.front.entries y.front.entries = (_, sym g.longer) in
    let more : IsPrefix y.front.entries a.front.entries = (a.entry ∷ [], sym longer) in record {
      right = subst (λ (es : List Entry). StandsFor (board_after y.board a.entry) y.board.sites es)
          (sym longer) (law y.board y.board.sites y.front.entries a.entry g.right);
      sites = g.sites;
      list = ap (λ f. f.list) is ∙ g.list;
      longer = prefix_drop x.front.entries a.front.entries
          (prefix_trans x.front.entries y.front.entries a.front.entries before more);
    }
