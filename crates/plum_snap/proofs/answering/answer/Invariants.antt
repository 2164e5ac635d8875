use Rattle.std.proofs.Common.{◌≡◌, List, length, take}
use Rattle.plum_base.specs.declared.entry.Entry.{Entry}
use Rattle.plum_base.specs.declared.sites.TargetSite.{TargetSite}
use Rattle.plum_base.specs.Sites.{AreNumbersOf, SitesView}
use Rattle.plum_board.specs.Board.{StandsFor}
use Rattle.plum_core.specs.Transcript.{ArePredictions}
use Rattle.plum_snap.proofs.answering.answer.Given as goal

abbrev pub invariant-loop-i : goal.invariant-loop-i
invariant-loop-i l = record {
  room : length l.answers ≡ length l.numbers;
  so_far : (sites : SitesView) (entries : List Entry) (targets : List TargetSite)
      → StandsFor l.board sites entries → AreNumbersOf sites.targets l.numbers targets
      → ArePredictions sites.stations entries (take l.i targets) (take l.i l.answers);
}
