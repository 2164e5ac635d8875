use Rattle.std.proofs.Common.{leb, refl, arith}
use Rattle.std.proofs.lemmas.List.Sums.{prefix_len-le-length}
use Rattle.plum_level.proofs.Searching.{IsAmong-half}
use Rattle.plum_level.proofs.thresholds.last_reached.Goals as goal

pub loop-width-init : goal.loop-width-init
loop-width-init c =
    let most = prefix_len-le-length (λ t. leb t c.args.amp) c.args.filled.now in
    record {
      within = omega (arith, c.told-filled);
      least = omega arith;
      most = omega (arith, most, c.told-filled);
    }

pub loop-width-preserved : goal.loop-width-preserved
loop-width-preserved c =
    let before = c.loop-width in
    rw c.from.ensures (IsAmong-half _ c.requires.order c.args.amp before.level before.width
    c.loop-width-test.true before.invariant _ refl)
