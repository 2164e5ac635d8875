use Rattle.plum_replay.specs.Pieces.{GatheredFew, HasFed}
use Rattle.plum_replay.proofs.round.feeding.feed_all.Given as goal

abbrev pub invariant-loop : goal.invariant-loop
invariant-loop g l = record {
  fed : HasFed l.initial.feeder l.feeder;
  few : GatheredFew l.feeder;
}
