use Rattle.std.proofs.Common.{◌≡◌, map, take}
use Rattle.left_right.specs.Sides as sides
use Rattle.plum_base.specs.Sites.{areas_of}
use Rattle.plum_snap.specs.Rule.{IsAsBefore}
use Rattle.plum_snap.specs.Sessions.{new_session}
use Rattle.plum_snap.proofs.opening.sessions.Given as goal

abbrev pub invariant-loop-a : goal.invariant-loop-a
invariant-loop-a l = record {
  sessions : l.sessions.items
      ≡ map (new_session l.front.publisher l.sites) (take l.a (areas_of l.sites.targets));
  doors : l.doors ≡ l.initial.doors;
  place : sides.view l.writer.desk.place ≡ sides.view l.initial.writer.desk.place;
  writer : IsAsBefore l.initial.writer l.writer;
}
