use Rattle.std.proofs.Common.{◌≡◌, ◌-◌}
use Rattle.plum_base.specs.Levels.{MOST_LEVELS}
use Rattle.plum_level.specs.Tallies.{IsTally}
use Rattle.plum_level.proofs.tally.Tally.climb.Given as goal

abbrev pub invariant-loop-self : goal.invariant-loop-self
invariant-loop-self l = record {
  tallied : IsTally l.self;
  same : l.self.counts ≡ l.initial.self.counts;
}

abbrev pub decreases-loop-self : goal.decreases-loop-self
decreases-loop-self l = MOST_LEVELS - l.self.top
