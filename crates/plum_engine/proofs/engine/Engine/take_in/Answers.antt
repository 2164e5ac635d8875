use Rattle.std.proofs.Common.{[], subst}
use Rattle.std.specs.Prelude.{if◌then◌else◌}
use Rattle.plum_engine.specs.Engine.{HoldsRun}
use Rattle.plum_engine.specs.Run.{samples_since_gap}
use Rattle.plum_engine.proofs.Runs.{samples_since_gap-more}
use Rattle.plum_engine.proofs.engine.Engine.take_in.Goals as goal
use Rattle.plum_engine.proofs.engine.Engine.take_in.Goals.{then-fresh, else-fresh}

pub returns : goal.returns
returns c = λ setup given stands.
    let begun : HoldsRun c.if-fresh.self setup
    (if c.args.fresh then [] else samples_since_gap given) = elim c.if-fresh.branch [
      | then-fresh w ↦ rw (w.self-is, w.if-fresh.true) (w.reset.ensures setup _ stands.run)
      | else-fresh w ↦ rw (w.self-is, w.if-fresh.false) stands.run
    ] in
    let more = rw c.as_slice.ensures.value at (c.append.ensures setup _ begun) in
    record {
      run = subst (HoldsRun c.append.new.self setup)
          (samples_since_gap-more given c.args.wave.now c.args.fresh) more;
    }
