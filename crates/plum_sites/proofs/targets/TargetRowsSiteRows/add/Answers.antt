use Rattle.plum_sites.proofs.MoreTargets.{targets_more}
use Rattle.plum_sites.proofs.targets.TargetRowsSiteRows.add.Goals as goal

pub returns-clause-sound : goal.returns-clause-sound
returns-clause-sound c =
    let before = c.args.self.now.targets.items in
    let target = rw c.as_slice.ensures.value at c.in_ok-target.ensures.target in
    let areas = c.in_ok-add_area.ensures before c.requires.1 in
    rw c.in_ok-push.ensures.items (
      targets_more before c.in_ok-target.target c.requires.0 target.1 target.2 target.3
          target.0.ranges.2 target.0.ranges.3,
      areas,
    )
