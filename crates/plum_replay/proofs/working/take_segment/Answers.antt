use Rattle.std.proofs.Common.{◌≡◌, ◌+◌, ◌++◌, List, Vec, length, map, ap, ap₂, ◌∙◌, subst, arith}
use Rattle.std.proofs.lemmas.List.{length-map}
use Rattle.std.specs.declared.alloc.Global.{Global}
use Rattle.std.specs.List.{flat_map}
use Rattle.plum_base.specs.declared.counts.Counts.{Counts}
use Rattle.plum_base.specs.declared.packet.Packet.{Packet}
use Rattle.plum_base.specs.declared.packet.RefusedBody.{RefusedBody}
use Rattle.plum_base.specs.declared.setup.Setup.{Setup}
use Rattle.plum_base.specs.Note.{note_of}
use Rattle.plum_packet.specs.Segments.{packets_in, refused_in}
use Rattle.plum_centre.specs.Centre.{CentreId}
use Rattle.plum_replay.specs.Between.{CanGoOn, GoesOnBy}
use Rattle.plum_replay.specs.Parts.{notes_text}
use Rattle.plum_replay.specs.Progress.{IsAt}
use Rattle.plum_replay.proofs.OneMore.{counts_alike, written, takes}
use Rattle.plum_replay.proofs.Standing.{can_go_on, stands_then}
use Rattle.plum_replay.proofs.working.take_segment.Given as given
use Rattle.plum_replay.proofs.working.take_segment.Goals as goal
use Rattle.plum_replay.proofs.working.take_segment.Goals.{After-len-count, After-count-counted}

-- the packets of the segment can be taken
can : (g : given.Over) (c : After-len-count g) (id : CentreId) (setup : Setup)
    (earlier : List Packet)
    → IsAt id setup c.args.sites.now earlier c.args.progress.now c.args.centre.now
    → CanGoOn id earlier c.args.segment.packets.items c.args.centre.now
can g c id setup earlier at =
    can_go_on id setup c.args.sites.now earlier c.args.progress.now c.args.centre.now at
    c.args.segment.packets.items c.requires.listed (omega (arith, c.requires.few))

pub go_round-requires-after_bounds : goal.go_round-requires-after_bounds
go_round-requires-after_bounds g c κs within =
    let (id, setup, earlier, at) = c.requires.at in (
      id,
      earlier,
      can g (goal.at.go_round-requires-after_bounds g c).After-len-count id setup earlier at,
    )

-- they were
went : (g : given.Over) (c : After-count-counted g) (id : CentreId) (setup : Setup)
    (earlier : List Packet)
    → IsAt id setup c.args.sites.now earlier c.args.progress.now c.args.centre.now
    → GoesOnBy id earlier c.args.segment.packets.items c.args.reads c.args.centre.now
    c.go_round.new.centre
went g c id setup earlier at =
    c.in_ok-go_round.ensures.goes_on id earlier
    (can g (goal.at.After-count-counted g c).After-len-count id setup earlier at)

-- and counted
stands : (g : given.Over) (c : After-count-counted g) (id : CentreId) (setup : Setup)
    (earlier : List Packet)
    → IsAt id setup c.args.sites.now earlier c.args.progress.now c.args.centre.now
    → IsAt id setup c.args.sites.now (earlier ++ c.args.segment.packets.items)
    c.count-counted.new.self c.go_round.new.centre
stands g c id setup earlier at =
    stands_then id setup c.args.sites.now earlier c.args.progress.now c.args.centre.now at
    c.args.segment.packets.items c.args.reads c.count-counted.result.counts.bodies
    c.count-counted.new.self c.go_round.new.centre (went g c id setup earlier at)
    (omega (
      arith,
      ap (λ (c : Counts). c.bodies) c.count-counted.ensures.counted,
      c.len-count.ensures,
    )) (ap (λ (c : Counts). c.bodies) c.count-counted.ensures.summed)

pub returns-clause-at : goal.returns-clause-at
returns-clause-at g c = stands g (goal.at.returns-clause-at g c).After-count-counted

pub returns-clause-takes : goal.returns-clause-takes
returns-clause-takes g c = λ id setup segments read t decoded few was holds.
    let here = (goal.at.returns-clause-takes g c).After-count-counted in
    let earlier : List Packet = flat_map packets_in segments in
    let segment = c.args.segment in
    let before = c.args.progress.now in
    let sites = c.args.sites.now in
    let goes : GoesOnBy id earlier (packets_in decoded) c.args.reads c.args.centre.now
    c.go_round.new.centre =
    subst (λ ps. GoesOnBy id earlier ps c.args.reads c.args.centre.now c.go_round.new.centre)
    holds.packets (went g here id setup earlier was.at) in
    let then : IsAt id setup sites (earlier ++ packets_in decoded) c.count-counted.new.self
    c.go_round.new.centre =
    subst (λ ps. IsAt id setup sites (earlier ++ ps) c.count-counted.new.self
    c.go_round.new.centre) holds.packets (stands g here id setup earlier was.at) in
    let noted : c.as_slice-notes.result.now ≡ map note_of goes.part =
    c.as_slice-notes.ensures ∙ c.notes.ensures ∙ goes.noted in
    takes c.legal_transcripts.ensures.part c.legal_transcripts.ensures.counted
    c.legal_transcripts.ensures.adds id setup sites segments read t decoded c.args.reads before
    c.args.centre.now few was c.count-counted.new.self c.go_round.new.centre goes
    c.put_notes.new.out c.count-counted.result
    (written c.put_notes.new.out c.in_ok-journal.journal _ _ c.in_ok-put_notes.ensures
    c.in_ok-journal.ensures
    (ap₂ (λ stations notes. notes_text stations (before.segments + 1) (before.counts.kept + 1)
    notes) c.stations.ensures.value noted))
    (c.count-counted.ensures.counted
    ∙ counts_alike c.len-count.result (length (packets_in decoded))
    (length c.as_slice-notes.result.now) (length goes.part) (length segment.refused.items)
    (length (refused_in decoded)) (omega (arith, c.len-count.ensures, ap length holds.packets))
    (ap length noted ∙ length-map goes.part note_of) (ap length holds.refused))
    (ap (λ (v : Vec RefusedBody Global). v.items) c.count-counted.ensures.refused ∙ holds.refused)
    c.count-counted.ensures.summed c.count-counted.ensures.segments then
