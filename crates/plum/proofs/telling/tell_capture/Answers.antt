use Rattle.std.proofs.Common.{Err, ap, refl, ◌∙◌, arith, length}
use Rattle.std.proofs.lemmas.Result.{err_from_is_err_and}
use Rattle.plum_host.specs.declared.host.In.TheVariants.{Capture}
use Rattle.plum_host.specs.declared.host.To.TheVariants.{Out, Journal}
use Rattle.plum_replay.proofs.Capturing.{from_read, from_limit}
use Rattle.plum_replay.proofs.Writings.{outputs_differ}
use Rattle.plum.proofs.Begun.{known, begun_nothing, begun_between, begun_within, begun_at_end}
use Rattle.plum.proofs.Written.{read_nothing, read_more, tells_whole}
use Rattle.plum.proofs.telling.tell_capture.Goals as goal

pub records-init : goal.records-init
records-init g c =
    let at = g.H.Host.told in
    let stations = c.args.sites.now.stations in
    record {
      progress = c.in_ok-reader.ensures.progress;
      within = omega (arith, c.in_ok-reader.ensures.given);
      count = omega (arith, c.requires.none);
      over = c.requires.over;
      same = λ job stations of. of;
      read = λ capture told. read_nothing c.args.teller stations capture c.in_ok-reader.reader
          (at c.args.host.now) told (c.in_ok-reader.ensures.start stations capture);
      journal = refl;
      other_inputs = λ other differs. refl;
      counts = record { reads = refl; writes = refl };
    }

pub records-preserved : goal.records-preserved
records-preserved g c =
    let before = c.records.invariant in
    let at = g.H.Host.told in
    let stations = c.args.sites.now.stations in
    let listed = rw c.in-Some.is at c.in_ok-found.ensures.listed in
    let given = rw c.in-Some.is at c.in_ok-found.ensures.given in
    record {
      progress = rw c.in-Some.is at c.in_ok-found.ensures.progress;
      within = c.next.ensures.bound;
      count = omega (arith, before.count, given, c.take.ensures.count);
      over = c.take.ensures.over (length stations) before.over;
      same = λ job sites of. c.take.ensures.same job sites (before.same job sites of);
      read = λ capture is. read_more c.args.teller c.records.teller stations capture
          c.records.reader (at c.args.host.now) (at c.records.host) (at c.next.new.host)
          (before.read capture is) (c.next.ensures.frame.outputs Out) c.take.new.self
          c.next.new.self c.in-Some.found c.in_ok-told.told (at c.put_all.new.host)
          (rw c.in-Some.is at c.in_ok-found.ensures.some) listed c.in_ok-told.ensures.told
          (c.put_all.ensures.frame.inputs Capture)
          (rw c.as_slice.ensures at c.in_ok-put_all.ensures.whole);
      journal = c.put_all.ensures.frame.other_output Journal outputs_differ
          ∙ c.next.ensures.frame.outputs Journal ∙ before.journal;
      other_inputs = λ other differs. c.put_all.ensures.frame.inputs other
          ∙ c.next.ensures.frame.other_inputs other differs ∙ before.other_inputs other differs;
      counts = record {
        reads = c.put_all.ensures.frame.read_faults ∙ c.in_ok-found.ensures.no_fault.reads
            ∙ before.counts.reads;
        writes = c.in_ok-put_all.ensures.no_fault ∙ c.in_ok-found.ensures.no_fault.writes
            ∙ before.counts.writes;
      };
    }

-- A read fails within the limit, or a record too many is met.
pub returns-in_err-found-clause-read : goal.returns-in_err-found-clause-read
returns-in_err-found-clause-read g c =
    let p = err_from_is_err_and c.from_residual-in_err-found.result
    c.from_residual-in_err-found.ensures.1 in
    rw (p.1, p.2) (λ e capture told.
    let was = c.records.invariant.read capture told in
    let fault = from_read c.in_err-found.field-0.0 cc in
    c.in_err-found.ensures.read (ap Err fault) capture was.given was.told)

pub returns-in_err-found-clause-limit : goal.returns-in_err-found-clause-limit
returns-in_err-found-clause-limit g c =
    let p = err_from_is_err_and c.from_residual-in_err-found.result
    c.from_residual-in_err-found.ensures.1 in
    rw (p.1, p.2) (λ e capture told.
    let was = c.records.invariant.read capture told in
    let fault = from_limit c.in_err-found.field-0.0 cc in
    c.in_err-found.ensures.over (ap Err fault) capture was.given was.told)

-- before the first record nothing is written
pub returns-in_err-reader-clause-begun : goal.returns-in_err-reader-clause-begun
returns-in_err-reader-clause-begun g c =
    let p = err_from_is_err_and c.from_residual.result c.from_residual.ensures.1 in
    rw p.1 (λ job setup of nothing capture told.
    begun_nothing job setup c.args.sites.now.stations capture (g.H.Host.told c.args.host.now))

-- between two records, and at the end
pub returns-in_err-found-clause-begun : goal.returns-in_err-found-clause-begun
returns-in_err-found-clause-begun g c =
    let p = err_from_is_err_and c.from_residual-in_err-found.result
    c.from_residual-in_err-found.ensures.1 in
    let before = c.records.invariant in
    let at = g.H.Host.told in
    let stations = c.args.sites.now.stations in
    rw p.1 (λ job setup of nothing capture told.
    begun_between (known c.segments_hold_each_body.ensures.decoded c.given_bodies_begin.ensures
    c.histories.ensures.begins) stations c.stations-stations.ensures.lawful.0.codes c.args.teller
    c.records.teller capture c.records.reader (at c.args.host.now) (at c.records.host)
    (at c.next.new.host) (before.read capture told) (c.next.ensures.frame.outputs Out) job setup
    nothing (before.same job stations of))

pub returns-in_err-told-clause-begun : goal.returns-in_err-told-clause-begun
returns-in_err-told-clause-begun g c =
    let p = err_from_is_err_and c.from_residual-in_err-told.result
    c.from_residual-in_err-told.ensures.1 in
    let before = c.records.invariant in
    let at = g.H.Host.told in
    let stations = c.args.sites.now.stations in
    rw p.1 (λ job setup of nothing capture told.
    begun_between (known c.segments_hold_each_body.ensures.decoded c.given_bodies_begin.ensures
    c.histories.ensures.begins) stations c.stations-stations.ensures.lawful.0.codes c.args.teller
    c.records.teller capture c.records.reader (at c.args.host.now) (at c.records.host)
    (at c.next.new.host) (before.read capture told) (c.next.ensures.frame.outputs Out) job setup
    nothing (before.same job stations of))

pub returns-in_err-end-clause-begun : goal.returns-in_err-end-clause-begun
returns-in_err-end-clause-begun g c =
    let p = err_from_is_err_and c.from_residual-in_err-end.result
    c.from_residual-in_err-end.ensures.1 in
    let before = c.records.invariant in
    let at = g.H.Host.told in
    let stations = c.args.sites.now.stations in
    rw p.1 (λ job setup of nothing capture told.
    begun_between (known c.segments_hold_each_body.ensures.decoded c.given_bodies_begin.ensures
    c.histories.ensures.begins) stations c.stations-stations.ensures.lawful.0.codes c.args.teller
    c.records.teller capture c.records.reader (at c.args.host.now) (at c.records.host)
    (at c.next.new.host) (before.read capture told) (c.next.ensures.frame.outputs Out) job setup
    nothing (before.same job stations of))

-- within what is told of a record
pub returns-in_err-put_all-clause-begun : goal.returns-in_err-put_all-clause-begun
returns-in_err-put_all-clause-begun g c =
    let p = err_from_is_err_and c.from_residual-in_err-put_all.result
    c.from_residual-in_err-put_all.ensures.1 in
    let before = c.records.invariant in
    let at = g.H.Host.told in
    let stations = c.args.sites.now.stations in
    rw p.1 (λ job setup of nothing capture told.
    begun_within (known c.segments_hold_each_body.ensures.decoded c.given_bodies_begin.ensures
    c.histories.ensures.begins) stations c.stations-stations.ensures.lawful.0.codes c.args.teller
    c.records.teller capture c.records.reader (at c.args.host.now) (at c.records.host)
    (at c.next.new.host) (before.read capture told) (c.next.ensures.frame.outputs Out) job setup
    nothing c.take.new.self c.next.new.self c.in-Some.found c.in_ok-told.told
    (at c.put_all.new.host) (rw c.in-Some.is at c.in_ok-found.ensures.some)
    (rw c.in-Some.is at c.in_ok-found.ensures.listed) c.in_ok-told.ensures.told
    (rw c.as_slice.ensures at c.in_err-put_all.ensures.front)
    (c.take.ensures.same job stations (before.same job stations of)))

-- within what is told at the end
pub returns-in_err-put_all-2-clause-begun : goal.returns-in_err-put_all-2-clause-begun
returns-in_err-put_all-2-clause-begun g c =
    let p = err_from_is_err_and c.from_residual-in_err-put_all-2.result
    c.from_residual-in_err-put_all-2.ensures.1 in
    let before = c.records.invariant in
    let at = g.H.Host.told in
    let stations = c.args.sites.now.stations in
    rw p.1 (λ job setup of nothing capture told.
    begun_at_end (known c.segments_hold_each_body.ensures.decoded c.given_bodies_begin.ensures
    c.histories.ensures.begins) stations c.stations-stations.ensures.lawful.0.codes c.args.teller
    c.records.teller capture c.records.reader (at c.args.host.now) (at c.records.host)
    (at c.next.new.host) (before.read capture told) (c.next.ensures.frame.outputs Out) job setup
    nothing c.next.new.self c.in_ok-end.end (at c.put_all-2.new.host)
    (rw c.in_default.is at c.in_ok-found.ensures.none)
    (rw (c.segments.ensures, c.tail.ensures) at c.in_ok-end.ensures)
    (rw c.as_slice-2.ensures at c.in_err-put_all-2.ensures.front)
    (before.same job stations of))

-- the whole text is written
pub returns-clause-text : goal.returns-clause-text
returns-clause-text g c = λ job setup of nothing capture told.
    let before = c.records.invariant in
    let at = g.H.Host.told in
    let stations = c.args.sites.now.stations in
    tells_whole c.args.teller c.records.teller stations capture c.records.reader
    (at c.args.host.now) (at c.records.host) (at c.next.new.host) (before.read capture told)
    (c.next.ensures.frame.outputs Out) c.next.new.self c.in_ok-end.end (at c.put_all-2.new.host)
    (rw c.in_default.is at c.in_ok-found.ensures.none)
    (rw (c.segments.ensures, c.tail.ensures) at c.in_ok-end.ensures)
    (c.put_all-2.ensures.frame.inputs Capture)
    (rw c.as_slice-2.ensures at c.in_ok-put_all-2.ensures.whole)
    (c.put_all-2.ensures.frame.other_output Journal outputs_differ
    ∙ c.next.ensures.frame.outputs Journal ∙ before.journal) job setup
    (before.same job stations of) nothing
