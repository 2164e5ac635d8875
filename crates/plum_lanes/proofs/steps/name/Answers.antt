use Rattle.std.proofs.Common.{[], Option, sym, subst}
use Rattle.crossbeam_queue.specs.Fifo.{Forks}
use Rattle.crossbeam_queue.specs.Passes.{view}
use Rattle.plum_lanes.specs.declared.rule.Basis.{Basis}
use Rattle.plum_lanes.specs.Opening.{basis_of}
use Rattle.plum_lanes.specs.Rule.{Holds, gatherer, spent}
use Rattle.plum_lanes.proofs.Making.{names}
use Rattle.plum_lanes.proofs.steps.name.Goals as goal

pub another-requires-clause-rule : goal.another-requires-clause-rule
another-requires-clause-rule g c =
    let pass = c.args.pass.now in
    let basis : Basis = basis_of c.args.setup.now c.args.sites.now in
    subst (λ (o : Option Basis). Forks Holds pass.id (view pass) (gatherer o [] 0 []) spent)
    (sym c.requires.basis) (names basis pass.id (view pass) c.requires.pass.1)
