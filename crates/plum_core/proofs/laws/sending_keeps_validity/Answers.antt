use Rattle.std.proofs.Common.{◌≡◌, ◌++◌, ◌∷◌, [], false, ap, sym, ◌∙◌, arith}
use Rattle.std.proofs.lemmas.Bool.Decides.{nat_tests}
use Rattle.std.specs.Prelude.{◌==◌}
use Rattle.plum_core.proofs.Backlogs.{IsValidHistory-joined, IsValidHistory-sent, IsBacklog-sent}
use Rattle.plum_core.proofs.Lanes.{entries_of_lane-push, entries_of_lane-push_other}
use Rattle.plum_core.proofs.laws.sending_keeps_validity.Goals as goal

pub returns-clause-valid : goal.returns-clause-valid
returns-clause-valid c = λ setup stations lane taken e sent all valid order backlog.
    IsValidHistory-sent setup stations lane taken e sent backlog all valid order

pub returns-clause-joins : goal.returns-clause-joins
returns-clause-joins c = IsValidHistory-joined

pub returns-clause-order : goal.returns-clause-order
returns-clause-order c = λ lane e sent all own order.
    ap (λ xs. xs ++ e ∷ []) order ∙ sym (entries_of_lane-push lane all e own)

pub returns-clause-others : goal.returns-clause-others
returns-clause-others c = λ lane e sent all other order.
    let is : (e.lane.0 == lane) ≡ false = grind (arith, nat_tests) in
    order ∙ sym (entries_of_lane-push_other lane all e is)

pub returns-clause-backlog : goal.returns-clause-backlog
returns-clause-backlog c = IsBacklog-sent
