use Rattle.std.proofs.Common.{◌∙◌}
use Rattle.plum_lanes.proofs.Gathered.{valid_after, known_after, all_after}
use Rattle.plum_lanes.proofs.gatherer.Gather.next.Goals as goal

pub returns-clause-gather : goal.returns-clause-gather
returns-clause-gather g c = λ opening gather.
    let is = gather.gather_of in
    let same = c.pop.ensures.same in
    let popped = c.pop.ensures.popped in
    let known = known_after _ _ _ is.gathers popped in
    record {
      gather_of = record {
        ring = is.ring;
        capacity = is.capacity;
        pass = (same.0 ∙ is.pass.0, same.2 ∙ is.pass.1);
        gathers = known.0;
        basis_is = known.1 ∙ is.basis_is;
      };
      out = known.2 ∙ gather.out;
      valid = valid_after opening.basis _ _ _ is.basis_is popped;
    }

pub returns-clause-all : goal.returns-clause-all
returns-clause-all g c =
    all_after c.valid_histories_hold_each_once.ensures c.args.self.now _ _ c.pop.ensures.popped
