use Rattle.std.proofs.Common.{◌≡◌, false}
use Rattle.plum_replay.specs.Pieces.{TakeParts, HasFed}
use Rattle.plum_replay.proofs.round.go_again.Given as goal

abbrev pub invariant-loop : goal.invariant-loop
invariant-loop g l = record {
  takes : TakeParts l.initial.shares l.shares;
  fed : HasFed l.initial.feeder l.feeder;
  allowed : l.feeder.refused ≡ false;
}
