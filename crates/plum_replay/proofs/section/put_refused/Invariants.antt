use Rattle.std.proofs.Common.{◌≡◌, ◌++◌, drop}
use Rattle.std.specs.List.{flat_map}
use Rattle.plum_text.specs.Lines.{out_line}
use Rattle.plum_text.specs.Texts.{refused_lines}
use Rattle.plum_replay.proofs.section.put_refused.Given as goal

-- the lines so far and those of what is left are all
abbrev pub invariant-loop-body : goal.invariant-loop-body
invariant-loop-body l =
    l.out ++ flat_map out_line (refused_lines (drop l.body-index l.refused))
    ≡ l.fn.out ++ flat_map out_line (refused_lines l.refused)
