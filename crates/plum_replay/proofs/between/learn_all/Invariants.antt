use Rattle.std.proofs.Common.{◌≡◌, ◌≤◌, ℕ, ◌<◌, slice_index_or}
use Rattle.plum_snap.specs.Sessions.{SessionView}
use Rattle.plum_replay.specs.Learning.{HasLearned}
use Rattle.plum_replay.proofs.between.learn_all.Given as goal

-- the sessions so far have learned, and the others are as they were
abbrev pub invariant-loop-session : goal.invariant-loop-session
invariant-loop-session l = record {
  same : l.feeder ≡ l.fn.feeder;
  done : (a : ℕ) (d : SessionView) → a < l.session-index
      → HasLearned l.fn.feeder.published (slice_index_or l.fn.sessions a d)
      (slice_index_or l.session-items a d);
  left : (a : ℕ) (d : SessionView) → l.session-index ≤ a
      → slice_index_or l.session-items a d ≡ slice_index_or l.fn.sessions a d;
}
