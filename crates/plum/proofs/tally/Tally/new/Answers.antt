use Rattle.std.proofs.Common.{length, refl, ap}
use Rattle.plum_core.proofs.Joining.{HoldsKept-nil}
use Rattle.plum.proofs.tally.Tally.new.Goals as goal

pub returns-clause-start : goal.returns-clause-start
returns-clause-start c = record {
  size = c.in_ok-no_keys.ensures.count;
  keys = λ s d below. c.in_ok-no_keys.ensures.none s d below;
  kept = ap length HoldsKept-nil;
  packets = refl;
  refused = refl;
}
