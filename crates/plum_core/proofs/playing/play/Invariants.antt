use Rattle.std.specs.Prelude.{All}
use Rattle.std.specs.Vec.Iter.{into_iter_items}
use Rattle.plum_core.specs.Following.{IsSized, Follows}
use Rattle.plum_core.specs.Machine.{start, state_after, AreReplies, NamesExist}
use Rattle.plum_core.proofs.playing.play.Given as goal

abbrev pub invariant-loop-event : goal.invariant-loop-event
invariant-loop-event l = record {
  sized : IsSized l.setup l.sites l.machine;
  follows : Follows l.setup l.machine (state_after l.setup start l.yielded);
  replies : AreReplies l.setup l.sites start l.yielded l.replies.items;
  rest : All (NamesExist l.setup l.sites) (into_iter_items l.event-iterator);
}
