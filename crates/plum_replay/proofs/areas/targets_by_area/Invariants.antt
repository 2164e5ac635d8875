use Rattle.std.proofs.Common.{take}
use Rattle.plum_replay.proofs.Numbered.{HoldFront}
use Rattle.plum_replay.proofs.areas.targets_by_area.Given as goal

-- the targets so far are in the lists of their areas
abbrev pub invariant-loop-t : goal.invariant-loop-t
invariant-loop-t l = HoldFront l.sites.targets (take l.t l.sites.targets) l.lists.items
