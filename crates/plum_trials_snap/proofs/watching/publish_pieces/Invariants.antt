use Rattle.std.proofs.Common.{◌≤◌, length}
use Rattle.plum_trials_snap.proofs.watching.publish_pieces.Given as goal

abbrev pub invariant-loop-n : goal.invariant-loop-n
invariant-loop-n g l = length l.publisher.appended ≤ l.n
