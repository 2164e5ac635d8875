use Rattle.std.proofs.Common.{length, ap, arith}
use Rattle.plum_trials_lanes.proofs.Working.{IsSomeLane-at, IsOpen-set}
use Rattle.plum_trials_lanes.proofs.handing.Opened.offer.Goals as goal

pub offer-offered-requires : goal.offer-offered-requires
offer-offered-requires g c =
    record {
      lane =
          IsSomeLane-at _ _ _ c.requires _ _ (ap length c.as_slice-lanes.ensures.value) _
          (omega arith) c.index_mut-lane.ensures.value;
    }

pub returns-in_err-ok_or : goal.returns-in_err-ok_or
returns-in_err-ok_or g c =
    IsOpen-set _ _ _ c.requires _ _ (ap length c.as_slice-lanes.ensures.value) _ (omega arith)
    c.index_mut-lane.ensures.value _ c.offer-offered.ensures

pub returns : goal.returns
returns g c =
    IsOpen-set _ _ _ c.requires _ _ (ap length c.as_slice-lanes.ensures.value) _ (omega arith)
    c.index_mut-lane.ensures.value _ c.offer-offered.ensures
