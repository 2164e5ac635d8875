use Rattle.std.specs.Prelude.{IfSome}
use Rattle.plum_geo.specs.Corrected.{IsOnCorrectedScale}
use Rattle.plum_pyramid.specs.Maxima.{said_at, IsGreatest}
use Rattle.plum_pyramid.proofs.maxima.greatest_said_at.Given as goal

-- the greatest of those so far
abbrev pub invariant-loop-p : goal.invariant-loop-p
invariant-loop-p l = record {
  greatest : IsGreatest (said_at l.values l.place) l.members l.first l.p l.greatest;
  range : IfSome l.greatest IsOnCorrectedScale;
}
