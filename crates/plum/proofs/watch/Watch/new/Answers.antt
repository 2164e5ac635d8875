use Rattle.std.proofs.Common.{refl}
use Rattle.plum.proofs.Watching.{watched_none}
use Rattle.plum.proofs.watch.Watch.new.Goals as goal

pub returns-clause-start : goal.returns-clause-start
returns-clause-start c = λ stations.
    watched_none _ c.args.setup.now stations refl refl
    (λ n is. c.lane_where.ensures n is)
    (λ n. c.in_ok-new.ensures n.0)
