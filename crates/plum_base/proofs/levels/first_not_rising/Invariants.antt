use Rattle.plum_base.specs.Levels.{RisesUpTo}
use Rattle.plum_base.proofs.levels.first_not_rising.Given as goal

abbrev pub invariant-loop-i : goal.invariant-loop-i
invariant-loop-i l = RisesUpTo l.thresholds l.i
