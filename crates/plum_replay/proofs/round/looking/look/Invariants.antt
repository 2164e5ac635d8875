use Rattle.std.proofs.Common.{◌≡◌}
use Rattle.plum_replay.proofs.round.looking.look.Given as goal

-- It was shut out so far.
abbrev pub invariant-loop : goal.invariant-loop
invariant-loop g l = l.session ≡ record l.initial.session { shut = l.session.shut }
