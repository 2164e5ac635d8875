use Rattle.std.proofs.Common.{ℕ, [], refl}
use Rattle.std.proofs.lemmas.List.Elements.{All-push}
use Rattle.plum_core.specs.Station.{Stands}
use Rattle.plum_core.proofs.Lists.{length_more}
use Rattle.plum_core.proofs.Networks.{HasTaken-nil}
use Rattle.plum_core.proofs.network.Network.new.Goals as goal

pub loop-preserved : goal.loop-preserved
loop-preserved c =
    let before = c.loop.invariant in
    record {
      count =
          rw c.in_ok-push.ensures.items (length_more c.loop.stations.items _ _ before.count);
      each =
          rw c.in_ok-push.ensures.items
          (All-push (λ station. (s : ℕ) → Stands station c.args.setup.now s []) _ _ before.each
          c.in_ok-new.ensures);
    }

pub returns-clause-stand : goal.returns-clause-stand
returns-clause-stand c = record {
  lanes = refl;
  each = λ s d below. c.loop.invariant.each s d below s;
}

pub returns-clause-start : goal.returns-clause-start
returns-clause-start c = HasTaken-nil _ c.args.setup.now (returns-clause-stand c)
