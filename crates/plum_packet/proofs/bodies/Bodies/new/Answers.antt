use Rattle.std.proofs.Common.{[], refl}
use Rattle.plum_packet.proofs.bodies.Bodies.new.Goals as goal

-- nothing was given yet
pub returns-clause-start : goal.returns-clause-start
returns-clause-start c = λ stations capture. record {
  whole = [];
  begun = [];
  has = record {
    bodies = [];
    stands = c.in_ok-new.ensures.start capture;
    cut = [];
    so_far = [];
    cut_is = λ later. refl;
    decoded = tt;
    begun_is = tt;
  };
  segments = refl;
  count = refl;
  all = refl;
}
