use Rattle.std.specs.Prelude.{All}
use Rattle.plum_core.specs.Machine.{NamesExist}
use Rattle.plum_trials_core.proofs.machine.expect_replies.Given as goal

abbrev pub invariant-loop-event : goal.invariant-loop-event
invariant-loop-event g l = All (NamesExist l.setup l.sites) l.existing.items
