use Rattle.std.proofs.Common.{◌≡◌, [], length}
use Rattle.std.specs.Prelude.{All}
use Rattle.plum_alert.specs.Desk.{StandsFor}
use Rattle.plum_replay.proofs.desks.new_desks.Given as goal

abbrev pub invariant-loop : goal.invariant-loop
invariant-loop l = record {
  count : length l.desks.items ≡ l.counter;
  each : All (λ desk. StandsFor desk l.rules []) l.desks.items;
}
