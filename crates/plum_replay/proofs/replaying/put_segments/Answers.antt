use Rattle.std.proofs.Common.{◌≡◌, [], ◌++◌, Err, inl, refl}
use Rattle.std.proofs.Common.{sym, ap, subst, ◌∙◌, arith}
use Rattle.std.proofs.lemmas.Result.{err_from_is_err_and}
use Rattle.plum_host.proofs.Frames.{CountsNothing-join}
use Rattle.plum_host.specs.declared.host.In.TheVariants.{Capture}
use Rattle.plum_packet.specs.declared.records.Progress.TheVariants.{Open}
use Rattle.plum_packet.specs.Reading.{MOST_RECORDS, HasGiven, IsWithin}
use Rattle.plum_packet.specs.Reading.{HasMoreRecords}
use Rattle.plum_packet.specs.Records.{tail_of}
use Rattle.plum_replay.specs.Written.{WritesCapture}
use Rattle.plum_replay.proofs.Capturing.{is_open, from_read, from_limit, ok_differs, none_cut}
use Rattle.plum_replay.proofs.Segmented.{goes_on, read-first, read-more, read_all, stops_unread}
use Rattle.plum_replay.proofs.Segmented.{stops_first, stops_reading, stops_next}
use Rattle.plum_replay.proofs.Stopping.{stops_at_first}
use Rattle.plum_replay.proofs.replaying.put_segments.Given as given
use Rattle.plum_replay.proofs.replaying.put_segments.Goals as goal
use Rattle.plum_replay.proofs.replaying.put_segments.Goals.{In_err-first, In-Some, In_err-segment}
use Rattle.plum_replay.proofs.replaying.put_segments.Goals.{In-Some-2}

-- before a reader is there
pub returns-in_err-reader-clause-in_order : goal.returns-in_err-reader-clause-in_order
returns-in_err-reader-clause-in_order g c =
    let p = err_from_is_err_and c.from_residual.result c.from_residual.ensures.1 in
    let host = g.H.Host.told c.args.host.now in
    let sites = c.args.sites.now in
    rw p.1 (λ id setup begun capture told.
    stops_at_first setup sites capture (host.left Capture) c.legal_transcripts.ensures.start []
    (inl (none_cut sites.stations capture (host.left Capture) told)) host host refl refl)

-- where the first segment is not given
pub returns-in_err-first-clause-in_order : goal.returns-in_err-first-clause-in_order
returns-in_err-first-clause-in_order g c =
    let p = err_from_is_err_and c.from_residual-in_err-first.result
    c.from_residual-in_err-first.ensures.1 in
    let at = g.H.Host.told in
    let sites = c.args.sites.now in
    rw p.1 (λ id setup begun capture told.
    stops_unread id setup sites capture (at c.args.host.now) told c.in_ok-reader.reader
    c.next.new.self (c.in_ok-reader.ensures.start sites.stations capture) (at c.next.new.host)
    c.next.ensures.frame.outputs c.legal_transcripts.ensures.start c.in_err-first.ensures.taken)

pub returns-in_err-first-clause-read : goal.returns-in_err-first-clause-read
returns-in_err-first-clause-read g c =
    let p = err_from_is_err_and c.from_residual-in_err-first.result
    c.from_residual-in_err-first.ensures.1 in
    let at = g.H.Host.told in
    let reader = c.in_ok-reader.reader in
    let stations = c.args.sites.now.stations in
    let limit = ap (λ r. r.limit) c.in_ok-reader.ensures.view in
    rw (p.1, p.2) (λ e capture told.
    let fault = from_read c.in_err-first.field-0.0 cc in
    subst (λ n. IsWithin n capture ((at c.next.new.host).left Capture)) limit
    (c.in_err-first.ensures.read (ap Err fault) capture []
    (subst (HasGiven stations capture [] reader) (sym told)
    (c.in_ok-reader.ensures.start stations capture))))

pub returns-in_err-first-clause-limit : goal.returns-in_err-first-clause-limit
returns-in_err-first-clause-limit g c =
    let p = err_from_is_err_and c.from_residual-in_err-first.result
    c.from_residual-in_err-first.ensures.1 in
    let reader = c.in_ok-reader.reader in
    let stations = c.args.sites.now.stations in
    let limit = ap (λ r. r.limit) c.in_ok-reader.ensures.view in
    rw (p.1, p.2) (λ e capture told.
    let fault = from_limit c.in_err-first.field-0.0 cc in
    subst (HasMoreRecords capture) limit
    (c.in_err-first.ensures.over (ap Err fault) capture []
    (subst (HasGiven stations capture [] reader) (sym told)
    (c.in_ok-reader.ensures.start stations capture))))

-- where it is not replayed whole
pub returns-in_err-counted-clause-in_order : goal.returns-in_err-counted-clause-in_order
returns-in_err-counted-clause-in_order g c =
    let p = err_from_is_err_and c.from_residual-in_err-counted.result
    c.from_residual-in_err-counted.ensures.1 in
    let at = g.H.Host.told in
    let sites = c.args.sites.now in
    let now = at c.put_first.new.host in
    rw p.1 (λ id setup begun capture told.
    stops_first id setup sites capture (at c.args.host.now) told c.in_ok-reader.reader
    c.next.new.self (c.in_ok-reader.ensures.start sites.stations capture) (at c.next.new.host)
    c.next.ensures.frame.outputs c.in-Some.first
    (rw c.in-Some.is at c.in_ok-first.ensures.some)
    (rw c.in-Some.is at c.in_ok-first.ensures.progress)
    (c.in_ok-first.ensures.same_limit ∙ ap (λ r. r.limit) c.in_ok-reader.ensures.view) now
    c.put_first.ensures.inputs
    (λ decoded holds taken. c.in_err-counted.ensures.in_order id setup decoded begun holds capture
    (now.left Capture) taken))

pub rounds-init : goal.rounds-init
rounds-init g c =
    let at = g.H.Host.told in
    let sites = c.args.sites.now in
    let first = at c.args.host.now in
    let between = at c.next.new.host in
    let now = at c.put_first.new.host in
    let old = c.in_ok-reader.reader in
    let reader = c.next.new.self in
    let view = c.in_ok-reader.ensures.view in
    let segment = c.in-Some.first in
    let limit : reader.limit ≡ MOST_RECORDS =
    c.in_ok-first.ensures.same_limit ∙ ap (λ r. r.limit) view in
    let gives = rw c.in-Some.is at c.in_ok-first.ensures.some in
    let bodies = rw c.in-Some.is at c.in_ok-first.ensures.bodies in
    let fewer = rw (c.in-Some.is, view) at c.in_ok-first.ensures.fewer in
    record {
      of = c.in_ok-counted.ensures.of;
      at = λ id setup is.
          (segment.packets.items, c.in_ok-counted.ensures.at id setup [] is);
      limit = limit;
      within = omega (arith, c.in_ok-first.ensures.limit, limit);
      going = rw c.in-Some.is at c.in_ok-first.ensures.progress;
      bodies = omega (arith, bodies, c.in_ok-counted.ensures.bodies, c.requires.nothing);
      segments = omega (arith, fewer, c.in_ok-counted.ensures.segments, c.requires.nothing);
      given = λ capture told.
          goes_on sites capture [] old reader (first.left Capture) between now segment
          (subst (HasGiven sites.stations capture [] old) (sym told)
          (c.in_ok-reader.ensures.start sites.stations capture))
          gives c.put_first.ensures.inputs;
      read = λ id setup begun capture told.
          read-first id setup sites capture first told old reader
          (c.in_ok-reader.ensures.start sites.stations capture) between
          c.next.ensures.frame.outputs segment gives c.put_first.new.progress
          c.in_ok-counted.counted c.put_first.new.centre now
          (λ decoded holds. c.in_ok-counted.ensures.written id setup decoded begun holds)
          c.put_first.ensures.inputs;
      counts = CountsNothing-join (record {
        reads = c.in_ok-first.ensures.no_fault;
        writes = c.next.ensures.frame.write_faults;
      }) c.in_ok-counted.ensures.no_fault;
      other_inputs = λ other differs.
          c.put_first.ensures.inputs other ∙ c.next.ensures.frame.other_inputs other differs;
    }

-- a reader that fails was not at its end
was_open : (g : given.Over) (c : In_err-segment g) → c.rounds.reader.progress ≡ Open
was_open g c =
    is_open c.rounds.reader.progress c.rounds.invariant.going
    (λ ended. ok_differs (sym c.in_err-segment.was ∙ (c.next-in-rounds.ensures.ended ended).0))

-- where a later segment is not given
pub returns-in_err-segment-clause-in_order : goal.returns-in_err-segment-clause-in_order
returns-in_err-segment-clause-in_order g c =
    let p = err_from_is_err_and c.from_residual-in_err-segment.result
    c.from_residual-in_err-segment.ensures.1 in
    let at = g.H.Host.told in
    let reading = was_open g (goal.at.returns-in_err-segment-clause-in_order g c).In_err-segment in
    rw p.1 (λ id setup begun capture told.
    stops_reading id setup c.args.sites.now capture (at c.args.host.now) told c.rounds.progress
    c.rounds.counted c.rounds.centre c.rounds.reader (at c.rounds.host)
    (c.rounds.invariant.read id setup begun capture told) reading c.next-in-rounds.new.self
    (at c.next-in-rounds.new.host) c.next-in-rounds.ensures.frame.outputs
    c.in_err-segment.ensures.taken)

pub returns-in_err-segment-clause-read : goal.returns-in_err-segment-clause-read
returns-in_err-segment-clause-read g c =
    let p = err_from_is_err_and c.from_residual-in_err-segment.result
    c.from_residual-in_err-segment.ensures.1 in
    let at = g.H.Host.told in
    let before = c.rounds.invariant in
    let reading = was_open g (goal.at.returns-in_err-segment-clause-read g c).In_err-segment in
    rw (p.1, p.2) (λ e capture told.
    let fault = from_read c.in_err-segment.field-0.0 cc in
    let gone = before.given capture told in
    subst (λ n. IsWithin n capture ((at c.next-in-rounds.new.host).left Capture)) before.limit
    (c.in_err-segment.ensures.read (ap Err fault) capture gone.segments
    (gone.given.more reading)))

pub returns-in_err-segment-clause-limit : goal.returns-in_err-segment-clause-limit
returns-in_err-segment-clause-limit g c =
    let p = err_from_is_err_and c.from_residual-in_err-segment.result
    c.from_residual-in_err-segment.ensures.1 in
    let before = c.rounds.invariant in
    let reading = was_open g (goal.at.returns-in_err-segment-clause-limit g c).In_err-segment in
    rw (p.1, p.2) (λ e capture told.
    let fault = from_limit c.in_err-segment.field-0.0 cc in
    let gone = before.given capture told in
    subst (HasMoreRecords capture) before.limit
    (c.in_err-segment.ensures.over (ap Err fault) capture gone.segments
    (gone.given.more reading)))

pub put_next-requires-clause-at : goal.put_next-requires-clause-at
put_next-requires-clause-at g c κs within =
    let (id, setup, is) = c.requires.at in
    let now = c.rounds.invariant.at id setup is in
    (id, setup, now.0, now.1)

-- where it is not replayed whole
pub returns-in_err-counted-2-clause-in_order : goal.returns-in_err-counted-2-clause-in_order
returns-in_err-counted-2-clause-in_order g c =
    let p = err_from_is_err_and c.from_residual-in_err-counted-2.result
    c.from_residual-in_err-counted-2.ensures.1 in
    let at = g.H.Host.told in
    let first = at c.args.host.now in
    let now = at c.put_next.new.host in
    rw p.1 (λ id setup begun capture told.
    let was = c.rounds.invariant.read id setup begun capture told in
    stops_next id setup c.args.sites.now capture first told c.rounds.progress c.rounds.counted
    c.rounds.centre c.rounds.reader (at c.rounds.host) was
    (rw c.in-Some-2.is at c.in_ok-segment.ensures.begun) c.next-in-rounds.new.self
    (at c.next-in-rounds.new.host) c.next-in-rounds.ensures.frame.outputs c.in-Some-2.segment
    (rw c.in-Some-2.is at c.in_ok-segment.ensures.some)
    (rw c.in-Some-2.is at c.in_ok-segment.ensures.progress)
    (c.in_ok-segment.ensures.same_limit ∙ c.rounds.invariant.limit) now c.put_next.ensures.inputs
    (λ decoded still holds taken. c.in_err-counted-2.ensures.in_order id setup was.done was.last
    decoded first still holds capture (now.left Capture) taken))

pub rounds-preserved : goal.rounds-preserved
rounds-preserved g c =
    let before = c.rounds.invariant in
    let at = g.H.Host.told in
    let sites = c.args.sites.now in
    let first = at c.args.host.now in
    let between = at c.next-in-rounds.new.host in
    let now = at c.put_next.new.host in
    let old = c.rounds.reader in
    let reader = c.next-in-rounds.new.self in
    let segment = c.in-Some-2.segment in
    let limit : reader.limit ≡ MOST_RECORDS =
    c.in_ok-segment.ensures.same_limit ∙ before.limit in
    let reading = rw c.in-Some-2.is at c.in_ok-segment.ensures.begun in
    let gives = rw c.in-Some-2.is at c.in_ok-segment.ensures.some in
    let bodies = rw c.in-Some-2.is at c.in_ok-segment.ensures.bodies in
    let fewer = rw c.in-Some-2.is at c.in_ok-segment.ensures.fewer in
    record {
      of = c.in_ok-counted-2.ensures.of;
      at = λ id setup is.
          let was = before.at id setup is in
          (was.0 ++ segment.packets.items, c.in_ok-counted-2.ensures.at id setup was.0 was.1);
      limit = limit;
      within = omega (arith, c.in_ok-segment.ensures.limit, limit);
      going = rw c.in-Some-2.is at c.in_ok-segment.ensures.progress;
      bodies = omega (arith, bodies, c.in_ok-counted-2.ensures.bodies, before.bodies);
      segments = omega (arith, fewer, c.in_ok-counted-2.ensures.segments, before.segments);
      given = λ capture told.
          let gone = before.given capture told in
          goes_on sites capture gone.segments old reader ((at c.rounds.host).left Capture) between
          now segment (gone.given.more reading) gives c.put_next.ensures.inputs;
      read = λ id setup begun capture told.
          let was = before.read id setup begun capture told in
          read-more id setup sites capture first told c.rounds.progress c.rounds.counted
          c.rounds.centre old (at c.rounds.host) was reading reader between
          c.next-in-rounds.ensures.frame.outputs segment gives c.put_next.new.progress
          c.in_ok-counted-2.counted c.put_next.new.centre now
          (λ decoded still holds. c.in_ok-counted-2.ensures.written id setup was.done was.last
          decoded first still holds)
          c.put_next.ensures.inputs;
      counts = CountsNothing-join before.counts (CountsNothing-join (record {
        reads = c.in_ok-segment.ensures.no_fault;
        writes = c.next-in-rounds.ensures.frame.write_faults;
      }) c.in_ok-counted-2.ensures.no_fault);
      other_inputs = λ other differs.
          c.put_next.ensures.inputs other
          ∙ c.next-in-rounds.ensures.frame.other_inputs other differs
          ∙ before.other_inputs other differs;
    }

pub returns-clause-written : goal.returns-clause-written
returns-clause-written g c = λ id setup begun capture told.
    let before = c.rounds.invariant in
    let at = g.H.Host.told in
    let sites = c.args.sites.now in
    let first = at c.args.host.now in
    let ended = rw c.in_default-2.is at c.in_ok-segment.ensures.none in
    let end = c.next-in-rounds.ensures.ended ended in
    let all = read_all id setup sites capture first told c.rounds.progress c.rounds.counted
    c.rounds.centre c.rounds.reader (at c.rounds.host) (before.read id setup begun capture told)
    ended before.limit in
    subst (λ n. WritesCapture id setup sites c.rounds.progress c.rounds.counted n c.rounds.centre
    first (at c.next-in-rounds.new.host) capture) (sym (c.tail.ensures ∙ ap tail_of end.1))
    (subst (λ h. WritesCapture id setup sites c.rounds.progress c.rounds.counted
    (tail_of c.rounds.reader) c.rounds.centre first (at h) capture) (sym end.2) all)
