use Rattle.std.proofs.Common.{◌≡◌, None, length}
use Rattle.std.specs.Prelude.{All}
use Rattle.plum.proofs.tally.no_keys.Given as goal

abbrev pub invariant-loop : goal.invariant-loop
invariant-loop l = record {
  count : length l.keys.items ≡ l.counter;
  none : All (λ k. k ≡ None) l.keys.items;
}
