use Rattle.plum_geo.proofs.Scans.{near_stations-are}
use Rattle.plum_geo.proofs.laws.near_stations_are_those_near.Goals as goal

pub returns : goal.returns
returns c = near_stations-are
