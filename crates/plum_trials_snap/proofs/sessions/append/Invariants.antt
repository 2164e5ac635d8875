use Rattle.std.proofs.Common.{◌≡◌, ◌≤◌, ◌+◌, length}
use Rattle.plum_trials_snap.proofs.sessions.append.Given as goal

abbrev pub invariant-loop-value : goal.invariant-loop-value
invariant-loop-value l = record {
  publisher : l.publisher.publisher ≡ l.initial.publisher.publisher;
  appended : length l.publisher.appended ≤ length l.initial.publisher.appended + l.value-index;
}
