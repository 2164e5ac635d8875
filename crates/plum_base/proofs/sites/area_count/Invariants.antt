use Rattle.std.proofs.Common.{◌≡◌, ◌≤◌, take, length}
use Rattle.plum_base.specs.Sites.{areas_of}
use Rattle.plum_base.proofs.sites.area_count.Given as goal

abbrev pub invariant-loop-i : goal.invariant-loop-i
invariant-loop-i l = record {
  counted : l.count ≡ length (areas_of (take l.i l.targets));
  at_most : l.count ≤ l.i;
}
