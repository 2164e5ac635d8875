use Rattle.std.proofs.Common.{length, ap, arith}
use Rattle.plum_trials_lanes.proofs.Working.{IsSomeLane-at, IsOpen-set}
use Rattle.plum_trials_lanes.proofs.handing.Opened.take.Goals as goal

pub take-took-requires-clause-lane : goal.take-took-requires-clause-lane
take-took-requires-clause-lane c =
    IsSomeLane-at _ _ _ c.requires _ _ (ap length c.as_slice-lanes.ensures.value) _
    (omega arith) c.index_mut-lane.ensures.value

pub returns-in_err-ok_or : goal.returns-in_err-ok_or
returns-in_err-ok_or c =
    IsOpen-set _ _ _ c.requires _ _ (ap length c.as_slice-lanes.ensures.value) _ (omega arith)
    c.index_mut-lane.ensures.value _ c.take-took.ensures

pub returns : goal.returns
returns c =
    IsOpen-set _ _ _ c.requires _ _ (ap length c.as_slice-lanes.ensures.value) _ (omega arith)
    c.index_mut-lane.ensures.value _ c.take-took.ensures
