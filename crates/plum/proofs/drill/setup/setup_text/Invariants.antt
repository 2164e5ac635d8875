use Rattle.std.proofs.Common.{◌≡◌, ◌++◌, take}
use Rattle.std.specs.List.{flat_map}
use Rattle.plum_table.specs.Setup.{fields_of}
use Rattle.plum.specs.DrillSetup.{head_text, stage_text}
use Rattle.plum.proofs.drill.setup.setup_text.Given as goal

abbrev pub invariant-loop-stage : goal.invariant-loop-stage
invariant-loop-stage l = l.text
    ≡ head_text (fields_of l.setup) ++ flat_map stage_text (take l.stage-index l.setup.cascade)
