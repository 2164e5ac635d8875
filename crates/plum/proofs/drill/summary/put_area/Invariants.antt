use Rattle.std.proofs.Common.{◌≡◌, ◌++◌, length, take, zip}
use Rattle.std.specs.List.{flat_map}
use Rattle.plum_base.specs.Sites.{targets_of}
use Rattle.plum_text.specs.Lines.{out_line}
use Rattle.plum_text.specs.Texts.{answer_lines}
use Rattle.plum_replay.proofs.PartTexts.{answers_left}
use Rattle.plum.proofs.drill.summary.put_area.Given as goal

-- as many answers as there were targets of the area; the lines so far and those of what is left
-- are all
abbrev pub invariant-loop-target : goal.invariant-loop-target
invariant-loop-target l = record {
  count : l.answered ≡ length (targets_of l.area (take l.target-index l.targets));
  written :
      l.summary
      ++ flat_map out_line
      (answers_left l.m (zip (targets_of l.area l.targets) l.answers) l.answered)
      ≡ l.fn.summary
      ++ flat_map out_line (answer_lines l.m (targets_of l.area l.targets) l.answers);
}
