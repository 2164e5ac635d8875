use Rattle.std.proofs.Common.{sym, ap, ◌∙◌, []}
use Rattle.plum_trials_lanes.proofs.handing.Opened.new.Goals as goal

pub returns : goal.returns
returns c =
    let opening = c.in_ok-lanes.ensures.0 in
    let basis = c.in_ok-lanes.ensures.1 in
    let new = c.in_ok-lanes.ensures.2 in
    record {
      opening = opening;
      shape = (ap (λ b. b.stations) basis ∙ c.in_ok-sites.ensures, sym new.whole.lanes_are.all);
      at_work = λ i d less. record {
        packets = [];
        taken = new.taken i d less;
      };
      gather_is = new.whole.gather_is;
    }
