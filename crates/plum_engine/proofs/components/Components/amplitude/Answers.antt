use Rattle.std.proofs.Common.{w32, to_z-of_z, FitsSigned, arith, rules}
use Rattle.std.proofs.lemmas.Int.{ints}
use Rattle.plum_engine.proofs.Samples.{JoinsSample-from}
use Rattle.plum_engine.proofs.components.Components.amplitude.Goals as goal

pub returns : goal.returns
returns c =
    let s = c.args.sample in
    let of_x : FitsSigned w32 s.x = search rules in
    let of_y : FitsSigned w32 s.y = search rules in
    let of_z : FitsSigned w32 s.z = search rules in
    let x : FitsSigned w32 c.next_filtered-x.result = omega (arith, ints) in
    let y : FitsSigned w32 c.next_filtered-y.result = omega (arith, ints) in
    let z : FitsSigned w32 c.next_filtered-z.result = omega (arith, ints) in
    let joined_x = simp to_z-of_z at c.next_filtered-x.ensures.joins in
    let joined_y = simp to_z-of_z at c.next_filtered-y.ensures.joins in
    let joined_z = simp to_z-of_z at c.next_filtered-z.ensures.joins in
    let squares = simp to_z-of_z at c.squared.ensures.value in
    let squares_y = simp to_z-of_z at c.squared-2.ensures.value in
    let squares_z = simp to_z-of_z at c.squared-3.ensures.value in
    rw (squares, squares_y, squares_z, ← c.self.view_is)
    (JoinsSample-from c.as_long.ensures c.self.inside.gain s joined_x joined_y joined_z)
