use Rattle.std.proofs.Common.{sym, subst, arith}
use Rattle.plum_trials_lanes.specs.AtWork.{IsSomeLane}
use Rattle.plum_trials_lanes.proofs.rounds.each.Goals as goal

pub for_each_mut-requires-clause-accepts : goal.for_each_mut-requires-clause-accepts
for_each_mut-requires-clause-accepts g c κs within = λ i p less is.
    let few = c.requires.few in (
      omega arith,
      subst (IsSomeLane c.args.load.stations c.args.load.lanes i) (sym is)
          (c.requires.lanes i p.now less),
    )
