use Rattle.std.proofs.Common.{arith}
use Rattle.plum_pyramid.proofs.Steps.{searched-none, searched-all}
use Rattle.plum_pyramid.proofs.searching.best_at.Goals as goal

pub loop-search-init : goal.loop-search-init
loop-search-init c =
    searched-none c.args.layout.now c.args.values.now c.args.place c.requires.values.laid

pub returns : goal.returns
returns c =
    searched-all c.args.layout.now c.args.values.now c.args.place c.loop-search.search
    c.loop-search.invariant (omega arith)
