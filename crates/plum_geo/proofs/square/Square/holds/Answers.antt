use Rattle.std.proofs.Common.{rules}
use Rattle.std.proofs.lemmas.Int.{to_z-of_z}
use mir.Syntax.{w32}
use mir.Val.{SFits}
use Rattle.plum_geo.proofs.square.Square.holds.Goals as goal

pub returns-then-is_along : goal.returns-then-is_along
returns-then-is_along c =
    let side : SFits w32 c.args.self.side = search rules in
    let from_x : SFits w32 c.args.self.x = search rules in
    let from_y : SFits w32 c.args.self.y = search rules in
    let x : SFits w32 c.args.at.x = search rules in
    let y : SFits w32 c.args.at.y = search rules in
    let first = simp to_z-of_z at c.is_along.ensures in
    let second = simp to_z-of_z at c.is_along-then-is_along.ensures in
    (λ is. (first.0 c.if-is_along.true, second.0 is), λ within. second.1 within.1)
