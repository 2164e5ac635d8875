use Rattle.std.proofs.Common.{◌≡◌, length}
use Rattle.plum_trials_given.proofs.packets.equal_samples.Given as goal

abbrev pub invariant-loop : goal.invariant-loop
invariant-loop l = length l.wave ≡ l.counter
