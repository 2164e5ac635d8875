use Rattle.std.proofs.Common.{◌≡◌, ◌++◌}
use Rattle.std.specs.List.{flat_map}
use Rattle.plum_text.specs.Lines.{out_line}
use Rattle.plum.specs.DrillSummary.{answers_at}
use Rattle.plum.specs.Summarized.{last_answers}
use Rattle.plum.proofs.Answered.{areas_left}
use Rattle.plum.proofs.drill.summary.put_answers.Given as goal

-- the lines so far and those of what is left are all
abbrev pub invariant-loop-a : goal.invariant-loop-a
invariant-loop-a l =
    let targets = l.sites.targets in
    let answers = last_answers l.sessions in
    l.summary ++ flat_map out_line (areas_left l.m targets answers l.a)
    ≡ l.fn.summary ++ flat_map out_line (answers_at l.m targets answers)
