use Rattle.std.proofs.Common.{◌≡◌, take}
use Rattle.plum_base.specs.Sites.{areas_of}
use Rattle.plum_base.proofs.sites.areas_in.Given as goal

abbrev pub invariant-loop-target : goal.invariant-loop-target
invariant-loop-target l = l.areas.items ≡ areas_of (take l.target-index l.targets)
