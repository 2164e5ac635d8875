use Rattle.std.proofs.Common.{◌≡◌, ℕ, [], length}
use Rattle.std.specs.Prelude.{All}
use Rattle.plum_core.specs.Station.{Stands}
use Rattle.plum_core.proofs.network.Network.new.Given as goal

abbrev pub invariant-loop : goal.invariant-loop
invariant-loop l = record {
  count : length l.stations.items ≡ l.counter;
  each : All (λ station. (s : ℕ) → Stands station l.setup s []) l.stations.items;
}
