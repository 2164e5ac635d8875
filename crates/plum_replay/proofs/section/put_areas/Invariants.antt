use Rattle.std.proofs.Common.{◌≡◌, ◌++◌}
use Rattle.std.specs.List.{flat_map}
use Rattle.plum_base.specs.Sites.{areas_of}
use Rattle.plum_text.specs.Lines.{out_line}
use Rattle.plum_text.specs.Texts.{areas_lines}
use Rattle.plum_replay.proofs.PartTexts.{areas_left}
use Rattle.plum_replay.proofs.section.put_areas.Given as goal

-- the lines so far and those of what is left are all
abbrev pub invariant-loop-a : goal.invariant-loop-a
invariant-loop-a l =
    let targets = l.sites.targets in
    l.out ++ flat_map out_line (areas_left targets l.m l.readings l.alerts l.a) ≡ l.fn.out
    ++ flat_map out_line (areas_lines targets l.m (areas_of targets) l.readings l.alerts)
