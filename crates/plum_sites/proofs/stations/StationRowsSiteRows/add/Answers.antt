use Rattle.plum_sites.proofs.MoreStations.{stations_more}
use Rattle.plum_sites.proofs.stations.StationRowsSiteRows.add.Goals as goal

pub returns-clause-sound : goal.returns-clause-sound
returns-clause-sound c =
    let before = c.args.self.now.stations.items in
    let station = rw c.as_slice.ensures.value at c.in_ok-station.ensures.station in
    rw c.in_ok-push.ensures.items (stations_more before c.in_ok-station.station c.requires
    station.1 station.2 station.0.ranges.1 station.0.ranges.2)
