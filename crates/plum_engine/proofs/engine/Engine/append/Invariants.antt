use Rattle.std.proofs.Common.{List, ◌++◌, take}
use Rattle.plum_base.specs.declared.wave.Sample.{Sample}
use Rattle.plum_base.specs.declared.setup.Setup.{Setup}
use Rattle.plum_engine.specs.Engine.{HoldsRun}
use Rattle.plum_engine.proofs.engine.Engine.append.Given as goal

abbrev pub invariant-loop-sample : goal.invariant-loop-sample
invariant-loop-sample l = (setup : Setup) (run : List Sample)
    → HoldsRun l.fn.self setup run
    → HoldsRun l.self setup (run ++ take l.sample-index l.samples)
