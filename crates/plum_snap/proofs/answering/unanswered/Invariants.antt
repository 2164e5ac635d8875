use Rattle.std.proofs.Common.{◌≡◌, replicate, None}
use Rattle.plum_snap.proofs.answering.unanswered.Given as goal

abbrev pub invariant-loop : goal.invariant-loop
invariant-loop l = l.answers ≡ replicate l.counter None
