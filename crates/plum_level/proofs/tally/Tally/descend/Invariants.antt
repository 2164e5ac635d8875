use Rattle.std.proofs.Common.{◌≡◌, ◌+◌, ◌<◌}
use Rattle.plum_level.specs.Level.{ENOUGH}
use Rattle.plum_level.specs.Tallies.{from_level, IsTally}
use Rattle.plum_level.proofs.tally.Tally.descend.Given as goal

abbrev pub invariant-loop-self : goal.invariant-loop-self
invariant-loop-self l = record {
  tallied : IsTally l.self;
  same : l.self.counts ≡ l.initial.self.counts;
  few : from_level l.self.counts (l.self.top + 1) < ENOUGH;
}

abbrev pub decreases-loop-self : goal.decreases-loop-self
decreases-loop-self l = l.self.top
