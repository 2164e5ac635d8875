use Rattle.std.proofs.Common.{◌≡◌, ◌+◌, ◌^◌, ◌∷◌, map}
use Rattle.arrayvec.specs.ArrayVec.{array_vec_len}
use Rattle.std.specs.List.{range_with_len}
use Rattle.plum.proofs.drill.setup.drill_thresholds.Given as goal

abbrev pub invariant-loop-i : goal.invariant-loop-i
invariant-loop-i l = record {
  count : array_vec_len l.thresholds ≡ l.i + 1;
  items : l.thresholds.items ≡ 0 ∷ map (λ i. 2 ^ (i + 5)) (range_with_len 1 l.i);
}
