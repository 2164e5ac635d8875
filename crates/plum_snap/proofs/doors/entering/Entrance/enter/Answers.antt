use Rattle.plum_snap.proofs.Moves.{sees}
use Rattle.plum_snap.proofs.doors.entering.Entrance.enter.Goals as goal

pub enter_as-requires : goal.enter_as-requires
enter_as-requires c = sees _ _
