use Rattle.plum_core.proofs.Givings.{Stands-other, IsBacklog-given}
use Rattle.plum_core.proofs.Joining.{KeyLaws, known}
use Rattle.plum_core.proofs.laws.giving_keeps_backlog.Goals as goal

pub returns-clause-backlog : goal.returns-clause-backlog
returns-clause-backlog c = λ setup stations taken p sent given listed gives backlog.
    let law = c.kept_packets.ensures in
    let laws : KeyLaws =
    known law.joins law.leaves law.by_station law.fresh_alone law.after_kept law.fresh_after_kept in
    IsBacklog-given laws setup stations taken p sent listed backlog given gives

pub returns-clause-others : goal.returns-clause-others
returns-clause-others c = Stands-other
