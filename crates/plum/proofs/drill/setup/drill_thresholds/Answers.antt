use Rattle.std.proofs.Common.{ℕ, ◌+◌, ◌*◌, ◌%◌, ◌^◌, List, [], ◌∷◌, ◌++◌, map, sym, ap, ◌∙◌, arith}
use Rattle.std.proofs.lemmas.List.FromFn.{map-range_with_len_more}
use Rattle.std.specs.List.{range_with_len}
use Rattle.plum.proofs.Table.{power}
use Rattle.plum.proofs.drill.setup.drill_thresholds.Goals as goal

pub loop-i-preserved : goal.loop-i-preserved
loop-i-preserved c =
    let i = c.loop-i.i in
    let entry : ℕ → ℕ = λ n. 2 ^ (n + 5) in
    let so_far = c.loop-i.invariant in
    record {
      count = omega (arith, c.push-in-loop-i.ensures.len);
      items = c.push-in-loop-i.ensures.items
          ∙ ap (λ (l : List ℕ). l ++ (1 * 2 ^ (i + 6) % 2 ^ 64) ∷ []) so_far.items
          ∙ ap (λ (n : ℕ). 0 ∷ (map entry (range_with_len 1 i) ++ n ∷ [])) (power i (omega arith))
          ∙ ap (λ (l : List ℕ). 0 ∷ l)
          (sym (map-range_with_len_more entry 1 i (i + 1) (omega arith)));
    }
