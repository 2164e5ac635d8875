use Rattle.std.proofs.Common.{take}
use Rattle.plum_geo.specs.Shown.{AreShown}
use Rattle.plum_core.proofs.area.shown_in.Given as goal

-- what they show after the entries so far
abbrev pub invariant-loop-entry : goal.invariant-loop-entry
invariant-loop-entry l = AreShown l.shown l.stations (take l.entry-index l.history)
