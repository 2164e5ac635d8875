use Rattle.std.proofs.Common.{◌∷◌, [], ◌++◌, List, ap, ap₂, sym, ◌∙◌, take}
use Rattle.std.proofs.lemmas.List.{take_all, take_more, map-append}
use Rattle.plum_base.specs.declared.answers.Reading.{Reading}
use Rattle.plum_snap.specs.Sessions.{SessionView}
use Rattle.plum_replay.specs.Between.{last_readings}
use Rattle.plum_replay.proofs.between.copy_readings.Goals as goal

pub loop-session-init : goal.loop-session-init
loop-session-init c = c.new-readings.ensures.items

-- one session more
pub loop-session-preserved : goal.loop-session-preserved
loop-session-preserved c =
    let n = c.loop-session.session-index in
    let sessions = c.args.sessions.now in
    let session = c.session-item.result in
    let last_of : SessionView → Reading = λ s. s.last in
    let one_more = take_more sessions n session c.loop-session-test.true in
    c.in_ok-push.ensures.items
    ∙ ap₂ (λ (rs : List Reading) (r : Reading). rs ++ r ∷ []) c.loop-session.invariant
    (ap (λ answers. record { front = c.last-last.result.now.front; answers = answers })
    c.in_ok-copy.ensures ∙ c.last-last.ensures ∙ ap last_of c.session-item.is)
    ∙ sym (ap last_readings one_more ∙ map-append last_of (take n sessions) _)

pub returns : goal.returns
returns c =
    c.loop-session.invariant
    ∙ ap last_readings
    (take_all c.loop-session.session-index c.args.sessions.now c.loop-session-test.false)
