use Rattle.std.proofs.lemmas.List.Elements.{All-tail}
use Rattle.plum_core.specs.Machine.{State, start, state_after, NamesExist}
use Rattle.plum_core.proofs.MoreEvents.{state_after-push, AreReplies-push}
use Rattle.plum_core.proofs.playing.play.Goals as goal

pub loop-event-preserved : goal.loop-event-preserved
loop-event-preserved c =
    let before = c.loop-event.invariant in
    let setup = c.args.setup.now in
    let sites = c.args.sites.now in
    let event = c.in-Some.event in
    let yielded = c.loop-event.yielded in
    let state : State = state_after setup start yielded in
    let rest = rw c.in-Some.ensures.steps.0 at before.rest in
    let reply = c.in_ok-step.field-0 in
    record {
      sized = c.step.ensures.sized;
      follows =
          rw (state_after-push setup start yielded event)
          (c.in_ok-step.ensures.follows state before.follows);
      replies =
          rw c.in_ok-push.ensures.items
          (AreReplies-push setup sites start yielded c.loop-event.replies.items event reply
          before.replies (c.in_ok-step.ensures.reply state before.follows));
      rest = All-tail (NamesExist setup sites) event _ rest;
    }
