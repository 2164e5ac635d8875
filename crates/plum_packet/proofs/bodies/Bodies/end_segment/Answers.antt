use Rattle.std.proofs.Common.{ap, arith}
use Rattle.plum_packet.proofs.bodies.Bodies.end_segment.Goals as goal

pub overflow_add-self : goal.overflow_add-self
overflow_add-self c =
    let segments = ap (λ v. v.segments) c.self.view_is in
    let given = ap (λ v. v.records.given) c.self.view_is in
    omega (arith, segments, given, c.requires, c.self.invariant.1)
