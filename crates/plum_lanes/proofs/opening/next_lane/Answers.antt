use Rattle.std.proofs.Common.{◌≡◌, ℕ, ◌/◌, ◌<◌, length, ap, subst}
use Rattle.std.specs.Prelude.{◌↔◌}
use Rattle.plum_base.specs.Lane.{lane_of}
use Rattle.plum_lanes.specs.Opening.{basis_of}
use Rattle.plum_lanes.proofs.Opened.{new_stand}
use Rattle.plum_lanes.proofs.opening.next_lane.Goals as goal

pub returns-clause-stand : goal.returns-clause-stand
returns-clause-stand c =
    let setup = c.args.setup.now in
    let sites = c.args.sites.now in
    let number = c.args.number.0 in
    let count = c.share-count.result in
    let share : (s : ℕ) → lane_of setup.lanes s ≡ number
    → s < length sites.stations ↔ s / setup.lanes < count =
    subst (λ n. (s : ℕ) → lane_of setup.lanes s ≡ number → s < n ↔ s / setup.lanes < count)
    (ap length c.stations.ensures.value) c.share-count.ensures in
    new_stand (basis_of setup sites) number count _ c.in_ok-stations.ensures.count share
    c.in_ok-stations.ensures.stand
