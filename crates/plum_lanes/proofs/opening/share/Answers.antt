use Rattle.plum_lanes.proofs.Opened.{share_is}
use Rattle.plum_lanes.proofs.opening.share.Goals as goal

pub returns : goal.returns
returns c = λ s of_lane.
    share_is c.args.lanes c.args.number.0 s c.args.stations c.requires.lanes of_lane
