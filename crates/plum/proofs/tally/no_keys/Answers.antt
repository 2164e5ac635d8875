use Rattle.std.proofs.Common.{◌≡◌, None}
use Rattle.std.proofs.lemmas.List.Elements.{All-push}
use Rattle.plum_core.proofs.Lists.{length_more}
use Rattle.plum.proofs.tally.no_keys.Goals as goal

pub loop-preserved : goal.loop-preserved
loop-preserved c =
    let before = c.loop.invariant in
    record {
      count =
          rw c.in_ok-push.ensures.items (length_more c.loop.keys.items _ _ before.count);
      none =
          rw c.in_ok-push.ensures.items
          (All-push (λ k. k ≡ None) _ _ before.none c.new.ensures);
    }
