use Rattle.std.proofs.Common.{◌≡◌, length}
use Rattle.plum_trials_given.proofs.sites.stations_of.Given as goal

abbrev pub invariant-loop-i : goal.invariant-loop-i
invariant-loop-i l = length l.stations.items ≡ l.i
