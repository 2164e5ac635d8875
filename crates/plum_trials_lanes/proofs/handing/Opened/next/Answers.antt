use Rattle.plum_trials_lanes.proofs.handing.Opened.next.Goals as goal

pub returns : goal.returns
returns g c =
    let is = c.requires in
    record {
      opening = is.opening;
      shape = is.shape;
      at_work = is.at_work;
      gather_is = c.next.ensures.gather is.opening is.gather_is;
    }
