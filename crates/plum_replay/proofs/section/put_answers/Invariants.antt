use Rattle.std.proofs.Common.{◌≡◌, ◌++◌, List, length}
use Rattle.std.specs.List.{flat_map, zip}
use Rattle.plum_base.specs.declared.sites.TargetSite.{TargetSite}
use Rattle.plum_text.specs.Lines.{out_line}
use Rattle.plum_text.specs.Texts.{answer_lines}
use Rattle.plum_base.specs.Sites.{AreNumbersOf}
use Rattle.plum_replay.proofs.PartTexts.{answers_left}
use Rattle.plum_replay.proofs.section.put_answers.Given as goal

-- the lines so far and those of what is left are all
abbrev pub invariant-loop-target : goal.invariant-loop-target
invariant-loop-target l =
    (those : List TargetSite) → AreNumbersOf l.sites l.targets those
    → l.out ++ flat_map out_line (answers_left l.m (zip those l.answers) (length l.yielded))
    ≡ l.fn.out ++ flat_map out_line (answer_lines l.m those l.answers)
