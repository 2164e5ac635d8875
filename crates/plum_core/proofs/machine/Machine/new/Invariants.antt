use Rattle.std.proofs.Common.{◌≡◌, length, None}
use Rattle.std.specs.Prelude.{All}
use Rattle.plum_core.proofs.machine.Machine.new.Given as goal

abbrev pub invariant-loop : goal.invariant-loop
invariant-loop l = record {
  count : length l.waiting.items ≡ l.counter;
  none : All (λ entry. entry ≡ None) l.waiting.items;
}

abbrev pub invariant-loop-2 : goal.invariant-loop-2
invariant-loop-2 l = record {
  count : length l.seen.items ≡ l.counter;
  none : All (λ n. n ≡ 0) l.seen.items;
}
