use Rattle.plum_centre.specs.Rounds.{StayWhole}
use Rattle.plum_centre.proofs.closing.drain.Given as goal

abbrev pub invariant-loop : goal.invariant-loop
invariant-loop g l = StayWhole l.initial.lanes l.initial.feeder l.lanes l.feeder
