use Rattle.std.proofs.Common.{◌≡◌, take}
use Rattle.plum_replay.specs.Between.{last_readings}
use Rattle.plum_replay.proofs.between.copy_readings.Given as goal

abbrev pub invariant-loop-session : goal.invariant-loop-session
invariant-loop-session l = l.readings.items ≡ last_readings (take l.session-index l.sessions)
