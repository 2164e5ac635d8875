use Rattle.std.proofs.Common.{rules}
use Rattle.std.proofs.lemmas.Int.{to_z-of_z}
use mir.Syntax.{w32}
use mir.Val.{SFits}
use Rattle.plum_geo.proofs.Corners.{squares-rise}
use Rattle.plum_geo.proofs.square.nearest.Goals as goal

pub returns-clause-nearest : goal.returns-clause-nearest
returns-clause-nearest c =
    let x : SFits w32 c.nearest_along.result = search rules in
    let y : SFits w32 c.nearest_along-2.result = search rules in
    let side : SFits w32 c.args.square.side = search rules in
    let from_x : SFits w32 c.args.square.x = search rules in
    let from_y : SFits w32 c.args.square.y = search rules in
    let to_x : SFits w32 c.args.to.x = search rules in
    let to_y : SFits w32 c.args.to.y = search rules in
    let first = simp to_z-of_z at c.nearest_along.ensures.nearest in
    let second = simp to_z-of_z at c.nearest_along-2.ensures.nearest in
    simp to_z-of_z (λ p within.
    squares-rise _ _ _ _ (first p.x within.0) (second p.y within.1))
