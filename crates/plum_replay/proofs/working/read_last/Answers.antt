use Rattle.std.proofs.Common.{◌≡◌, ◌++◌, ◌∷◌, [], List, length, sym, ap, ◌∙◌, subst, arith}
use Rattle.std.proofs.Common.{true, ◌<◌, append-nil}
use Rattle.std.proofs.lemmas.List.Elements.{All-nil}
use Rattle.std.proofs.lemmas.Result.{IfOk-weaker}
use Rattle.std.specs.List.{flat_map}
use Rattle.plum_base.specs.declared.packet.Packet.{Packet}
use Rattle.plum_base.specs.declared.setup.Setup.{Setup}
use Rattle.plum_base.specs.Packet.{AreListed}
use Rattle.plum_packet.specs.Segments.{packets_in}
use Rattle.plum_centre.specs.Centre.{CentreId}
use Rattle.plum_replay.specs.Between.{CanGoOn, GoesOnBy, last_readings}
use Rattle.plum_replay.specs.Progress.{IsAt}
use Rattle.plum_replay.specs.Sections.{of_area}
use Rattle.plum_replay.proofs.Adding.{ends_replay}
use Rattle.plum_replay.proofs.Standing.{can_go_on, one_each, stands_then, stands_still}
use Rattle.plum_replay.proofs.working.read_last.Given as given
use Rattle.plum_replay.proofs.working.read_last.Goals as goal
use Rattle.plum_replay.proofs.working.read_last.Goals.{After-new, In_ok-readings}

-- the centre can go on by no packets
can : (g : given.Over) (c : After-new g) (id : CentreId) (setup : Setup)
    (earlier : List Packet)
    → IsAt id setup c.args.sites.now earlier c.args.progress.now c.args.centre.now
    → CanGoOn id earlier c.new.result.items c.args.centre.now
can g c id setup earlier at =
    can_go_on id setup c.args.sites.now earlier c.args.progress.now c.args.centre.now at
    c.new.result.items
    (subst (AreListed (length c.args.sites.now.stations)) (sym c.new.ensures.items)
    (All-nil (λ (p : Packet). p.station.0 < length c.args.sites.now.stations)))
    (omega (arith, c.requires.few, ap length c.new.ensures.items))

pub go_round-requires-after_bounds : goal.go_round-requires-after_bounds
go_round-requires-after_bounds g c κs within =
    let (id, setup, earlier, at) = c.requires.at in (
      id,
      earlier,
      can g (goal.at.go_round-requires-after_bounds g c).After-new id setup earlier at,
    )

-- it did
went : (g : given.Over) (c : In_ok-readings g) (id : CentreId) (setup : Setup)
    (earlier : List Packet)
    → IsAt id setup c.args.sites.now earlier c.args.progress.now c.args.centre.now
    → GoesOnBy id earlier [] true c.args.centre.now c.go_round.new.centre
went g c id setup earlier at =
    subst (λ ps. GoesOnBy id earlier ps true c.args.centre.now c.go_round.new.centre)
    c.new.ensures.items
    (c.in_ok-go_round.ensures.goes_on id earlier
    (can g (goal.at.In_ok-readings g c).After-new id setup earlier at))

-- and stands where it did
stands : (g : given.Over) (c : In_ok-readings g) (id : CentreId) (setup : Setup)
    (earlier : List Packet)
    → IsAt id setup c.args.sites.now earlier c.args.progress.now c.args.centre.now
    → IsAt id setup c.args.sites.now earlier c.args.progress.now c.go_round.new.centre
stands g c id setup earlier at =
    subst (λ ps. IsAt id setup c.args.sites.now ps c.args.progress.now c.go_round.new.centre)
    (append-nil earlier)
    (stands_then id setup c.args.sites.now earlier c.args.progress.now c.args.centre.now at [] true
    0 c.args.progress.now c.go_round.new.centre (went g c id setup earlier at) (omega arith)
    (omega arith))

-- these are the last readings of the sessions
read : (g : given.Over) (c : In_ok-readings g)
    → c.in_ok-readings.readings.items ≡ last_readings c.go_round.new.centre.sessions.items
read g c = c.in_ok-readings.ensures ∙ ap last_readings c.as_slice.ensures.value

pub tell-requires-clause-readings : goal.tell-requires-clause-readings
tell-requires-clause-readings g c =
    let (id, setup, earlier, at) = c.requires.at in
    let here = (goal.at.tell-requires-clause-readings g c).In_ok-readings in
    ap length (read g here)
    ∙ one_each id setup c.args.sites.now earlier c.args.progress.now c.go_round.new.centre
    (stands g here id setup earlier at)

pub returns-clause-ends : goal.returns-clause-ends
returns-clause-ends g c =
    let here = (goal.at.returns-clause-ends g c).In_ok-readings in
    IfOk-weaker c.tell.result _ _
    (λ text tells id setup done last t sections was.
    ends_replay c.bodies_are_counted.ensures.goes_on c.legal_transcripts.ensures.readings id setup
    c.args.sites.now done last t sections c.args.progress.now c.args.counted c.args.centre.now was
    c.go_round.new.centre c.in_ok-readings.readings.items (read g here) c.tell.new.self text
    (tells setup.rules (λ a. of_area a t.readings) was.told.desks)
    (went g here id setup (flat_map packets_in (done ++ last ∷ [])) was.worked.at)
    c.tell.ensures.segments c.tell.ensures.counts) c.tell.ensures.tells

pub returns-clause-at : goal.returns-clause-at
returns-clause-at g c =
    IfOk-weaker c.tell.result _ _
    (λ _ _ id setup earlier at.
    stands_still id setup c.args.sites.now earlier c.args.progress.now c.go_round.new.centre
    (stands g (goal.at.returns-clause-at g c).In_ok-readings id setup earlier at)
    c.tell.new.self c.tell.ensures.counts) c.tell.ensures.tells
