use Rattle.std.proofs.Common.{◌≡◌, ◌++◌, take, drop, map}
use Rattle.std.specs.Prelude.{All}
use Rattle.plum_filter.specs.Filter.{IsBiquad, new_biquad}
use Rattle.plum_filter.proofs.filter.restart.Given as goal

abbrev pub invariant-loop-stage : goal.invariant-loop-stage
invariant-loop-stage l =
    (l.stages ≡ map (λ b. new_biquad b.stage) (take l.stage-index l.fn.stages)
    ++ drop l.stage-index l.fn.stages)
    × All IsBiquad l.stages
