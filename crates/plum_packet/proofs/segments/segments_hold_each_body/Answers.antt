use Rattle.std.proofs.Common.{[], refl, arith}
use Rattle.std.proofs.lemmas.List.Elements.{All-nil}
use Rattle.plum_packet.proofs.Cuts.{joined, bound, last, cuts, only}
use Rattle.plum_packet.proofs.OneWay.{decoded}
use Rattle.plum_packet.proofs.segments.segments_hold_each_body.Goals as goal

pub returns-clause-joined : goal.returns-clause-joined
returns-clause-joined c = joined 1 []

pub returns-clause-bound : goal.returns-clause-bound
returns-clause-bound c = λ bodies. bound 1 [] bodies (omega arith)

pub returns-clause-one : goal.returns-clause-one
returns-clause-one c = last 1

pub returns-clause-cuts : goal.returns-clause-cuts
returns-clause-cuts c = cuts

pub returns-clause-only : goal.returns-clause-only
returns-clause-only c =
    λ segments is bodies. only segments is 1 1 [] bodies (All-nil _) (omega arith) refl

pub returns-clause-decoded : goal.returns-clause-decoded
returns-clause-decoded c = decoded
