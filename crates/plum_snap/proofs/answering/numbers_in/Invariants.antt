use Rattle.std.proofs.Common.{◌≤◌, length, take}
use Rattle.plum_base.specs.Sites.{AreNumbersOf, targets_of}
use Rattle.plum_snap.proofs.answering.numbers_in.Given as goal

abbrev pub invariant-loop-n : goal.invariant-loop-n
invariant-loop-n l = record {
  numbers :
      AreNumbersOf l.sites.targets l.numbers.items (targets_of l.area (take l.n l.target-items));
  few : length l.numbers.items ≤ l.n;
}
