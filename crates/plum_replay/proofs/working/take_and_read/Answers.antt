use Rattle.std.proofs.Common.{◌≡◌, ◌++◌, ◌∷◌, [], length, ap, ◌∙◌, arith}
use Rattle.std.proofs.lemmas.List.{length_push}
use Rattle.plum_replay.specs.Between.{last_readings}
use Rattle.plum_replay.specs.Progress.{AreDesks}
use Rattle.plum_replay.specs.Sections.{of_area}
use Rattle.plum_replay.proofs.Adding.{replays_more}
use Rattle.plum_replay.proofs.Standing.{one_each, stands_still}
use Rattle.plum_replay.proofs.working.take_and_read.Given as given
use Rattle.plum_replay.proofs.working.take_and_read.Goals as goal
use Rattle.plum_replay.proofs.working.take_and_read.Goals.{In_ok-readings}

-- these are the last readings of the sessions
read : (g : given.Over) (c : In_ok-readings g)
    → c.in_ok-readings.readings.items ≡ last_readings c.take_segment.new.centre.sessions.items
read g c = c.in_ok-readings.ensures ∙ ap last_readings c.as_slice.ensures.value

pub tell-requires-clause-readings : goal.tell-requires-clause-readings
tell-requires-clause-readings g c =
    let (id, setup, earlier, at) = c.requires.at in
    ap length (read g (goal.at.tell-requires-clause-readings g c).In_ok-readings)
    ∙ one_each id setup c.args.sites.now _ c.take_segment.new.progress c.take_segment.new.centre
    (c.in_ok-taken.ensures.at id setup earlier at)

pub returns-clause-at : goal.returns-clause-at
returns-clause-at g c = λ id setup earlier at.
    stands_still id setup c.args.sites.now _ c.take_segment.new.progress
    c.take_segment.new.centre (c.in_ok-taken.ensures.at id setup earlier at)
    c.tell.new.self c.tell.ensures.counts

pub returns-clause-replays : goal.returns-clause-replays
returns-clause-replays g c = λ id setup done last t sections decoded was holds.
    let before = c.args.progress.now in
    let centre = c.take_segment.new.centre in
    let given : AreDesks c.take_segment.new.progress.desks.items setup.rules
    (λ a. of_area a t.readings) =
    rw c.in_ok-taken.ensures.desks was.told.desks in
    replays_more c.bodies_are_counted.ensures.goes_on c.legal_transcripts.ensures.readings id setup
    c.args.sites.now done last t sections before c.args.counted c.args.centre.now was
    centre c.in_ok-readings.readings.items
    (read g (goal.at.returns-clause-replays g c).In_ok-readings) c.tell.new.self
    c.in_ok-section.section
    (c.in_ok-section.ensures.tells setup.rules (λ a. of_area a t.readings) given)
    c.legal_transcripts.ensures.adds decoded c.in_ok-taken.taken.journal c.in_ok-taken.taken.counted
    c.take_segment.new.progress
    (c.in_ok-taken.ensures.takes id setup (done ++ last ∷ []) (length done) t decoded
    (omega (arith, length_push done last)) was.worked holds) c.tell.ensures.segments
    c.tell.ensures.counts
