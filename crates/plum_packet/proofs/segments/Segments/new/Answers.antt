use Rattle.std.proofs.Common.{[], refl}
use Rattle.plum_packet.proofs.segments.Segments.new.Goals as goal

-- nothing was given yet
pub returns-clause-start : goal.returns-clause-start
returns-clause-start c = λ stations capture. record {
  bodies = [];
  stands = c.in_ok-new.ensures.start capture;
  cut = [];
  cut_is = λ later. refl;
  decoded = tt;
}
