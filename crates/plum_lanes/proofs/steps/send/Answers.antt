use Rattle.plum_lanes.proofs.Sending.{sends, full}
use Rattle.plum_lanes.proofs.steps.send.Goals as goal

pub push_as-requires-clause-rule : goal.push_as-requires-clause-rule
push_as-requires-clause-rule g c =
    let law = c.sending_keeps_validity.ensures in (
      sends law.joins law.order law.others c.histories.ensures.lane _ _ _ _ c.requires.pass.1
          c.requires.lane c.requires.next,
      full _ _ c.requires.pass.1,
    )
