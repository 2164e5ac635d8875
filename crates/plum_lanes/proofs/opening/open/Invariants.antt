use Rattle.std.proofs.Common.{◌≡◌}
use Rattle.plum_lanes.specs.Opening.{Opening, basis_of}
use Rattle.plum_lanes.specs.Passing.{AreNewUpTo}
use Rattle.plum_lanes.proofs.opening.open.Given as goal

abbrev pub invariant-loop-number : goal.invariant-loop-number
invariant-loop-number l =
    (opening : Opening) × (opening.basis ≡ basis_of l.setup l.sites)
    × AreNewUpTo opening l.number l.lanes.items l.gather
