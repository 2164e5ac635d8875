use Rattle.std.proofs.Common.{sym, subst}
use Rattle.left_right.specs.Sides.{view}
use Rattle.plum_snap.specs.declared.snapshot.Snapshot.{Snapshot}
use Rattle.plum_snap.specs.Rule.{next_of}
use Rattle.plum_snap.specs.Snapshots.{Grows}
use Rattle.plum_snap.proofs.Moves.{grows}
use Rattle.plum_snap.proofs.ends.publish.Goals as goal

pub publish_as-requires : goal.publish_as-requires
publish_as-requires g c next is =
    let desk = c.args.writer.desk in
    let more : Grows desk.shown.value next =
    subst (λ (y : Snapshot). Grows desk.shown.value y) {x = next_of c.args.writer} {y = next}
    (sym {b = next_of c.args.writer} is) c.requires.grows in
    grows desk.place.id (view desk.place) desk.shown.value next more
