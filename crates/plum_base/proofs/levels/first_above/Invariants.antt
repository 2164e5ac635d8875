use Rattle.plum_base.specs.Levels.{IsWithinUpTo}
use Rattle.plum_base.proofs.levels.first_above.Given as goal

abbrev pub invariant-loop-i : goal.invariant-loop-i
invariant-loop-i l = IsWithinUpTo l.thresholds l.i
