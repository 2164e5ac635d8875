use Rattle.std.proofs.Common.{◌≡◌, ◌++◌, take, codes, decimal}
use Rattle.std.specs.List.{flat_map}
use Rattle.plum.proofs.drill.setup.put_numbers.Given as goal

abbrev pub invariant-loop-number : goal.invariant-loop-number
invariant-loop-number l = l.text
    ≡ l.initial.text ++ flat_map (λ m. codes ", " ++ decimal m) (take l.number-index l.more)
