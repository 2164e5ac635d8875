use Rattle.plum_core.specs.Machine.{start}
use Rattle.plum_core.proofs.Joining.{KeyLaws, known}
use Rattle.plum_core.proofs.Keeping.{KeepsFacts-start, KeepsFacts-step, KeepsFacts-after}
use Rattle.plum_core.proofs.laws.machine_keeps_facts.Goals as goal

pub returns-clause-start : goal.returns-clause-start
returns-clause-start c = KeepsFacts-start

pub returns-clause-step : goal.returns-clause-step
returns-clause-step c = λ setup sites s event table exist facts.
    let law = c.kept_packets.ensures in
    let laws : KeyLaws =
    known law.joins law.leaves law.by_station law.fresh_alone law.after_kept law.fresh_after_kept in
    KeepsFacts-step laws c.one_value.ensures.is setup sites table s event exist facts

pub returns-clause-events : goal.returns-clause-events
returns-clause-events c = λ setup sites events table exist.
    let law = c.kept_packets.ensures in
    let laws : KeyLaws =
    known law.joins law.leaves law.by_station law.fresh_alone law.after_kept law.fresh_after_kept in
    KeepsFacts-after laws c.one_value.ensures.is setup sites table start events exist
    (KeepsFacts-start setup _)
