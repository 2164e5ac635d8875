use Rattle.plum_core.proofs.Backlogs.{IsBacklog-taken}
use Rattle.plum_core.proofs.Joining.{KeyLaws, known}
use Rattle.plum_core.proofs.laws.taking_keeps_backlog.Goals as goal

pub returns : goal.returns
returns c = λ setup stations taken p sent table listed backlog.
    let law = c.kept_packets.ensures in
    let laws : KeyLaws =
    known law.joins law.leaves law.by_station law.fresh_alone law.after_kept law.fresh_after_kept in
    IsBacklog-taken laws c.one_value.ensures.is setup table stations taken p sent listed
    backlog
