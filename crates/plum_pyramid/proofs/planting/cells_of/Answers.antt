use Rattle.std.proofs.Common.{◌≡◌, length, arith, refl, sym, ◌∙◌}
use Rattle.std.proofs.lemmas.Bool.{eqb-true}
use Rattle.plum_pyramid.proofs.Growing.{AreCellsOf-grown, AreCellsOf-none}
use Rattle.plum_pyramid.proofs.planting.cells_of.Goals as goal
use Rattle.plum_pyramid.proofs.planting.cells_of.Goals.{then-not-is_empty+in_ok-plant}
use Rattle.plum_pyramid.proofs.planting.cells_of.Goals.{else-not-is_empty}

pub returns : goal.returns
returns c =
    let members = c.args.members.now in
    elim c.if-not-is_empty.branch [
      | then-not-is_empty+in_ok-plant w ↦
          rw w.cells-is
          (AreCellsOf-grown members c.new-cells.result.items w.plant.new.cells.items
          (length members) c.new-cells.ensures.items refl w.in_ok-plant.ensures)
      | else-not-is_empty w ↦
          let none : length members ≡ 0 =
          eqb-true (length members) 0 (sym c.is_empty.ensures ∙ w.if-not-is_empty.false) in
          rw w.cells-is (AreCellsOf-none members c.new-cells.result.items none (omega arith))
    ]
