use Rattle.std.proofs.Common.{ℕ, ◌<◌, slice_get, IsSomeAnd}
use Rattle.plum_base.specs.Cascade.{IsStage}
use Rattle.plum_base.proofs.cascade.first_out_of_range.Given as goal

abbrev pub invariant-loop-k : goal.invariant-loop-k
invariant-loop-k l = (j : ℕ) → j < l.k → IsSomeAnd (slice_get l.stages j) IsStage
