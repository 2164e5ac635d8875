use Rattle.std.proofs.Common.{◌≡◌, true, map}
use Rattle.std.specs.Prelude.{All}
use Rattle.plum_replay.specs.Pieces.{session_in}
use Rattle.plum_replay.proofs.round.sessions_of.Given as goal

abbrev pub invariant-loop-watch : goal.invariant-loop-watch
invariant-loop-watch l = record {
  sessions : l.sessions.items ≡ map session_in l.yielded;
  done : All (λ watch. watch.done ≡ true) l.yielded;
}
