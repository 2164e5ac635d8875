use Rattle.std.proofs.Common.{◌≢◌, take, AllPairs}
use Rattle.plum_base.proofs.sites.are_codes_distinct.Given as goal

abbrev pub invariant-loop-i : goal.invariant-loop-i
invariant-loop-i l = AllPairs (λ a b. a.code ≢ b.code) (take l.i l.stations)
