use Rattle.std.proofs.Common.{◌≡◌, take, map}
use Rattle.std.specs.Prelude.{All}
use Rattle.plum_filter.specs.Filter.{IsBiquad, new_biquad}
use Rattle.plum_filter.proofs.filter.Filter.new.Given as goal

abbrev pub invariant-loop-stage : goal.invariant-loop-stage
invariant-loop-stage l =
    (l.stages.items ≡ map new_biquad (take l.stage-index l.stage-items))
    × All IsBiquad l.stages.items
