use Rattle.std.proofs.Common.{◌≡◌, ℕ, [], length}
use Rattle.std.specs.Prelude.{All}
use Rattle.plum_core.specs.Station.{Stands}
use Rattle.plum_lanes.proofs.opening.stations.Given as goal

abbrev pub invariant-loop : goal.invariant-loop
invariant-loop l = record {
  count : length l.stations.items ≡ l.counter;
  each : (s : ℕ) → All (λ station. Stands station l.setup s []) l.stations.items;
}
