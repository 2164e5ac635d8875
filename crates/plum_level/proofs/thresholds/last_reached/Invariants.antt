use Rattle.plum_level.proofs.Searching.{IsAmong}
use Rattle.plum_level.proofs.thresholds.last_reached.Given as goal

abbrev pub invariant-loop-width : goal.invariant-loop-width
invariant-loop-width l = IsAmong l.filled l.amp l.level l.width

abbrev pub decreases-loop-width : goal.decreases-loop-width
decreases-loop-width l = l.width
