use Rattle.std.proofs.Common.{◌≡◌, List, length, refl, sym, ap, ◌∙◌, subst, arith, Vec}
use Rattle.std.proofs.lemmas.List.{length-map, with_items_is}
use Rattle.std.specs.declared.alloc.Global.{Global}
use Rattle.std.specs.Prelude.{All}
use Rattle.std.specs.Vec.{with_items}
use Rattle.plum_base.specs.declared.packet.Packet.{Packet}
use Rattle.plum_base.specs.Note.{note_of}
use Rattle.plum_snap.specs.Sessions.{SessionView}
use Rattle.plum_centre.specs.Centre.{CentreId}
use Rattle.plum_replay.specs.Between.{CanGoOn, GoesOnBy}
use Rattle.plum_replay.specs.Learning.{HaveLearned}
use Rattle.plum_replay.specs.Rounds.{CanWork, HasWorked}
use Rattle.plum_replay.proofs.ByLanes.{LaneLaws}
use Rattle.plum_replay.proofs.Rounding.{of_publisher, can_work, few_sent_then, goes_on}
use Rattle.plum_replay.proofs.between.go_round.Given as given
use Rattle.plum_replay.proofs.between.go_round.Goals as goal
use Rattle.plum_replay.proofs.between.go_round.Goals.{After-forget, In_ok-work_round}
use Rattle.plum_replay.proofs.between.go_round.Goals.{After-learn_all}

-- what is known of the laws
laws : (g : given.Over) (c : After-forget g) → LaneLaws
laws g c = record {
  front_valid = c.histories.ensures.valid;
  start = c.legal_transcripts.ensures.start;
  of_lanes = c.legal_transcripts.ensures.of_lanes;
  part_joins = c.legal_transcripts.ensures.part;
  counted = c.legal_transcripts.ensures.counted;
}

-- a centre that can go on can work
can : (g : given.Over) (c : After-forget g) (id : CentreId) (earlier : List Packet)
    → CanGoOn id earlier c.args.packets.items c.args.centre.now
    → CanWork id c.args.packets.items (record c.args.centre.now { feeder = c.forget.new.self })
can g c id earlier goes =
    can_work (laws g c) c.gathered_are_kept.ensures id earlier c.args.packets.items
    c.args.centre.now c.forget.new.self goes c.forget.ensures

pub work_round-requires-clause-can : goal.work_round-requires-clause-can
work_round-requires-clause-can g c κs within =
    let (id, earlier, goes) = c.requires in
    (id, can g (goal.at.work_round-requires-clause-can g c).After-forget id earlier goes)

-- and it did
worked : (g : given.Over) (c : In_ok-work_round g) (id : CentreId) (earlier : List Packet)
    → CanGoOn id earlier c.args.packets.items c.args.centre.now
    → HasWorked id c.args.packets.items c.args.reads
    (record c.args.centre.now { feeder = c.forget.new.self }) c.work_round.new.centre
worked g c id earlier goes =
    c.in_ok-work_round.ensures id
    (can g (goal.at.In_ok-work_round g c).After-forget id earlier goes)

pub close_round-requires-clause-whole : goal.close_round-requires-clause-whole
close_round-requires-clause-whole g c =
    let (id, earlier, goes) = c.requires in
    let at = (goal.at.close_round-requires-clause-whole g c).In_ok-work_round in
    (id, (worked g at id earlier goes).whole)

pub close_round-requires-clause-few : goal.close_round-requires-clause-few
close_round-requires-clause-few g c =
    let (id, earlier, goes) = c.requires in
    let at = goal.at.close_round-requires-clause-few g c in
    few_sent_then (laws g at.After-forget) c.gathered_are_kept.ensures id earlier
    c.args.packets.items c.args.reads c.args.centre.now c.forget.new.self c.work_round.new.centre
    goes c.forget.ensures (worked g at.In_ok-work_round id earlier goes)

pub learn_all-requires : goal.learn_all-requires
learn_all-requires g c =
    let (id, earlier, goes) = c.requires in
    let at = (goal.at.learn_all-requires g c).In_ok-work_round in
    let closed = c.close_round.new.self in
    subst (All (λ session. session.publisher ≡ closed.feeder.publisher))
    (sym c.as_mut_slice.ensures.value)
    (of_publisher id closed
    (c.close_round.ensures.whole id (worked g at id earlier goes).whole))

-- so the round went on
went_on : (g : given.Over) (c : After-learn_all g) (id : CentreId) (earlier : List Packet)
    → CanGoOn id earlier c.args.packets.items c.args.centre.now
    → GoesOnBy id earlier c.args.packets.items c.args.reads c.args.centre.now (record {
      lanes = c.close_round.new.self.lanes;
      feeder = c.learn_all.new.feeder;
      sessions = with_items c.close_round.new.self.sessions c.learn_all.new.sessions;
    })
went_on g c id earlier goes =
    let at = goal.at.After-learn_all g c in
    let did = worked g at.In_ok-work_round id earlier goes in
    let closed = c.close_round.new.self in
    let start = closed.sessions in
    let after = c.learn_all.new.sessions in
    let slice : c.as_mut_slice.result.now ≡ start.items = c.as_mut_slice.ensures.value in
    let long : length after ≡ length start.items = c.learn_all.auto.sessions ∙ ap length slice in
    let now : (with_items start after).items ≡ after =
    with_items_is start after (long ∙ sym start.ok.0) in
    let learned : HaveLearned closed.feeder.published start.items (with_items start after).items =
    subst (HaveLearned closed.feeder.published start.items) (sym now)
    (subst (λ ss. HaveLearned closed.feeder.published ss after) slice
    c.learn_all.ensures.learned) in
    goes_on (laws g at.After-forget) c.gathered_are_kept.ensures id earlier c.args.packets.items
    c.args.reads c.args.centre.now c.forget.new.self c.work_round.new.centre goes
    c.forget.ensures did closed c.in_ok-close_round.field-0
    (c.close_round.ensures.whole id did.whole) c.close_round.ensures.stay
    c.in_ok-close_round.ensures.closed
    (ap (λ (v : Vec SessionView Global). v.items) c.close_round.ensures.sessions)
    (record {
      lanes = closed.lanes;
      feeder = c.learn_all.new.feeder;
      sessions = with_items start after;
    }) refl c.learn_all.ensures.same learned

pub returns-clause-goes_on : goal.returns-clause-goes_on
returns-clause-goes_on g c = went_on g (goal.at.returns-clause-goes_on g c).After-learn_all

pub returns-clause-few : goal.returns-clause-few
returns-clause-few g c =
    let (id, earlier, goes) = c.requires in
    let on = went_on g (goal.at.returns-clause-few g c).After-learn_all id earlier goes in
    omega (arith, on.few, ap length on.noted, length-map on.part note_of)
