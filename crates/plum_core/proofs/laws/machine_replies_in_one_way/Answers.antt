use Rattle.plum_core.specs.Machine.{start}
use Rattle.plum_core.proofs.Existing.{has_replies}
use Rattle.plum_core.proofs.OneReply.{one_for_each, same_replies}
use Rattle.plum_core.proofs.laws.machine_replies_in_one_way.Goals as goal

pub returns-clause-exist : goal.returns-clause-exist
returns-clause-exist c = λ setup sites events.
    let greatest_is = c.greatest_keys.ensures.is in
    has_replies greatest_is c.greatest_keys.ensures.none c.near_stations_are_those_near.ensures
    setup sites start events

pub returns-clause-one_each : goal.returns-clause-one_each
returns-clause-one_each c = one_for_each

pub returns-clause-only : goal.returns-clause-only
returns-clause-only c = λ setup sites. same_replies setup sites c.greatest_keys.ensures.one
