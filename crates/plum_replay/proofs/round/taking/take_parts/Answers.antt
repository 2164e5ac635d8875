use Rattle.std.proofs.Common.{sym, subst}
use Rattle.plum_replay.specs.Pieces.{CanTakePart}
use Rattle.plum_replay.proofs.round.taking.take_parts.Goals as goal

pub for_each_mut-requires-clause-accepts : goal.for_each_mut-requires-clause-accepts
for_each_mut-requires-clause-accepts g c κs within = λ i p less is. (
  c.requires.0,
  subst (CanTakePart c.requires.0 i) (sym is) (c.requires.1 i p.now less),
)
