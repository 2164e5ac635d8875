use Rattle.std.proofs.Common.{◌≡◌, true, List, length, map, refl, sym, ap, ◌∙◌, subst}
use Rattle.std.specs.Prelude.{All}
use Rattle.std.specs.Vec.{with_items}
use Rattle.std.proofs.lemmas.List.{with_items_is}
use Rattle.plum_snap.specs.Sessions.{SessionView}
use Rattle.plum_centre.specs.declared.centre.Centre.{Centre}
use Rattle.plum_replay.specs.Rounds.{HaveLooked, HaveShared, HasWorked}
use Rattle.plum_replay.specs.Pieces.{AllLook, session_in}
use Rattle.plum_replay.proofs.Worked.{CanFeed-centre, HaveLooked-done}
use Rattle.plum_replay.proofs.Worked.{HasWorked-read, HasWorked-unread}
use Rattle.plum_replay.proofs.round.work_round.Goals as goal

pub work-requires-clause-share : goal.work-requires-clause-share
work-requires-clause-share g c κs within =
    let can = c.requires.can in (
      can.0.opening,
      rw c.replace-lanes.ensures.value can.1.share,
    )

pub work-requires-else-reads-clause-share : goal.work-requires-else-reads-clause-share
work-requires-else-reads-clause-share g c κs within =
    let can = c.requires.can in (
      can.0.opening,
      rw c.replace-lanes.ensures.value can.1.share,
    )

pub work-requires-clause-feed : goal.work-requires-clause-feed
work-requires-clause-feed g c κs within =
    let can = c.requires.can in CanFeed-centre can.0 _ c.args.centre.now can.1

pub work-requires-else-reads-clause-feed : goal.work-requires-else-reads-clause-feed
work-requires-else-reads-clause-feed g c κs within =
    let can = c.requires.can in CanFeed-centre can.0 _ c.args.centre.now can.1

-- a round in which the sessions read
pub returns-in_ok-centre-2 : goal.returns-in_ok-centre-2
returns-in_ok-centre-2 g c = λ id can.
    let centre = c.args.centre.now in
    let packets = c.args.packets.items in
    let start = c.in_ok-watches.watches in
    let after = c.work.new.watches in
    let slice : c.as_mut_slice-watched.result.now ≡ start.items =
    c.as_mut_slice-watched.ensures.value in
    let long : length after ≡ length start.items = c.work.auto.watches ∙ ap length slice in
    let now : (with_items start after).items ≡ after =
    with_items_is start after (long ∙ sym start.ok.0) in
    let looked : HaveLooked (map session_in start.items) (map session_in after) =
    HaveLooked-done start.items after long
    (subst (λ ws. AllLook ws after) slice c.in_ok-centre.ensures.look)
    (subst (All (λ watch. watch.done ≡ true)) now c.in_ok-centre-2.ensures.done) in
    let before : map session_in start.items ≡ centre.sessions.items =
    c.in_ok-watches.ensures ∙ ap (λ v. v.items) c.replace-sessions.ensures.value in
    let is : map session_in after ≡ c.in_ok-centre-2.field-0.items =
    ap (map session_in) (sym now) ∙ sym c.in_ok-centre-2.ensures.sessions in
    let shared : HaveShared id.opening packets centre.lanes.items c.in_ok-centre.field-0.items =
    rw c.replace-lanes.ensures.value
    at (c.in_ok-centre.ensures.share id.opening
    (rw c.replace-lanes.ensures.value can.share)) in
    let worked : Centre = record {
      lanes = c.in_ok-centre.field-0;
      feeder = c.work.new.feeder;
      sessions = c.in_ok-centre-2.field-0;
    } in
    subst (λ reads. HasWorked id packets reads centre worked) (sym c.if-reads.true)
    (HasWorked-read id packets centre can worked shared c.work.ensures.fed
    c.in_ok-centre.ensures.allowed
    (subst (λ (y : List SessionView × List SessionView). HaveLooked y.0 y.1)
    (λ j. (before j, is j)) looked))

-- one in which they do not
pub returns-in_ok-centre-3 : goal.returns-in_ok-centre-3
returns-in_ok-centre-3 g c = λ id can.
    let centre = c.args.centre.now in
    let packets = c.args.packets.items in
    let shared : HaveShared id.opening packets centre.lanes.items c.in_ok-centre-3.field-0.items =
    rw c.replace-lanes.ensures.value
    at (c.in_ok-centre-3.ensures.share id.opening
    (rw c.replace-lanes.ensures.value can.share)) in
    let worked : Centre = record {
      lanes = c.in_ok-centre-3.field-0;
      feeder = c.work-else-reads.new.feeder;
      sessions = centre.sessions;
    } in
    subst (λ reads. HasWorked id packets reads centre worked) (sym c.if-reads.false)
    (HasWorked-unread id packets centre can worked shared c.work-else-reads.ensures.fed
    c.in_ok-centre-3.ensures.allowed refl)
