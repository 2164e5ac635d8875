use Rattle.std.proofs.Common.{◌≡◌}
use Rattle.plum_text.proofs.read.words.parts.Given as goal

abbrev pub invariant-loop-word : goal.invariant-loop-word
invariant-loop-word l = l.words.items ≡ l.yielded
