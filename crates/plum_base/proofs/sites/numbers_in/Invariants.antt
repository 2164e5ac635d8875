use Rattle.std.proofs.Common.{◌≡◌, Some, take, map, slice_get}
use Rattle.plum_base.specs.Sites.{areas_of}
use Rattle.plum_base.proofs.sites.numbers_in.Given as goal

abbrev pub invariant-loop-target : goal.invariant-loop-target
invariant-loop-target l =
    map (λ n. slice_get (areas_of l.targets) n.0) l.numbers.items
    ≡ map (λ t. Some t.area) (take l.target-index l.targets)
