use Rattle.std.proofs.Common.{◌≡◌, ◌++◌, take, drop}
use Rattle.std.specs.Prelude.{All}
use Rattle.plum_filter.specs.Filter.{IsBiquad}
use Rattle.plum_filter.specs.Stage.{IsTerm}
use Rattle.plum_filter.proofs.Filters.{answer_through, moved_through}
use Rattle.plum_filter.proofs.filter.pass.Given as goal

-- What the stages that are left do to the answer so far is what all do to the term.
abbrev pub invariant-loop-stage : goal.invariant-loop-stage
invariant-loop-stage l =
    let left = drop l.stage-index l.stages in
    (answer_through left l.y ≡ answer_through l.fn.stages l.x)
    × (take l.stage-index l.stages ++ moved_through left l.y ≡ moved_through l.fn.stages l.x)
    × All IsBiquad l.stages
    × IsTerm l.y
