use Rattle.std.proofs.Common.{[]}
use Rattle.std.proofs.lemmas.List.Elements.{All-push}
use Rattle.plum_alert.specs.Desk.{StandsFor}
use Rattle.plum_core.proofs.Lists.{length_more}
use Rattle.plum_replay.proofs.desks.new_desks.Goals as goal

pub loop-preserved : goal.loop-preserved
loop-preserved c =
    let before = c.loop.invariant in
    record {
      count =
          rw c.in_ok-push.ensures.items (length_more c.loop.desks.items _ _ before.count);
      each =
          rw c.in_ok-push.ensures.items
          (All-push (λ desk. StandsFor desk c.args.rules.now []) _ _ before.each c.new.ensures);
    }

pub returns-clause-start : goal.returns-clause-start
returns-clause-start c = λ a d below. c.loop.invariant.each a d below
