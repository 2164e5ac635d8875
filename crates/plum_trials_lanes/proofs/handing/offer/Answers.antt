use Rattle.plum_trials_lanes.proofs.handing.offer.Goals as goal

pub returns : goal.returns
returns g c = λ opening shape work. record {
  packets = work.packets;
  taken = c.offer.ensures.taken opening _ work.packets work.taken;
}
