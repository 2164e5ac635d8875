use Rattle.std.proofs.Common.{take}
use Rattle.std.specs.Prelude.{IfSome}
use Rattle.plum_geo.specs.Corrected.{IsOnCorrectedScale}
use Rattle.plum_geo.specs.Prediction.{IsBest}
use Rattle.plum_geo.specs.Shown.{value_in}
use Rattle.plum_geo.proofs.shown.best_at.Given as goal

-- the best over the stations so far
abbrev pub invariant-loop-n : goal.invariant-loop-n
invariant-loop-n l = record {
  best : IsBest (take l.n l.stations) (value_in l.values) l.place l.greatest;
  range : IfSome l.greatest IsOnCorrectedScale;
}
