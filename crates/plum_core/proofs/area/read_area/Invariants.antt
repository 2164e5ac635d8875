use Rattle.std.proofs.Common.{take}
use Rattle.plum_core.specs.Transcript.{ArePredictions}
use Rattle.plum_base.specs.Sites.{targets_of}
use Rattle.plum_core.proofs.area.read_area.Given as goal

abbrev pub invariant-loop-target : goal.invariant-loop-target
invariant-loop-target l =
    let so_far = targets_of l.area (take l.target-index l.targets) in
    ArePredictions l.stations l.history so_far l.answers
