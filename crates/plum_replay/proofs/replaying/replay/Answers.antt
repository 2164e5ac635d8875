use Rattle.std.proofs.Common.{[], inl, refl, sym, subst, ◌∙◌, rules, Result, OnOk, OnErr}
use Rattle.std.proofs.lemmas.Result.{err_from_is_err_and, on_ok_weaker, on_err_weaker}
use Rattle.plum_centre.specs.Centre.{CentreId, IsOf, IsNew}
use Rattle.plum_host.specs.declared.host.In.TheVariants.{Capture}
use Rattle.plum_host.specs.declared.host.To.TheVariants.{Out, Journal}
use Rattle.plum_host.specs.Told.{Appends}
use Rattle.plum_packet.specs.Reading.{IsReadToEnd, MOST_RECORDS}
use Rattle.plum_replay.specs.Progress.{HasBegun}
use Rattle.plum_replay.proofs.Capturing.{none_cut}
use Rattle.plum_replay.proofs.Starting.{begins, replays_through, replays_capture}
use Rattle.plum_replay.proofs.Stopping.{stops_at_first, begun_from}
use Rattle.plum_replay.proofs.Writings.{outputs_differ}
use Rattle.plum_replay.proofs.replaying.replay.Given as given
use Rattle.plum_replay.proofs.replaying.replay.Goals as goal
use Rattle.plum_replay.proofs.replaying.replay.Goals.{In_ok-write, In_ok-progress}

by_ok : {T E P Q : Type 0} (r : Result T E) → OnOk r P → (P → Q) → OnOk r Q
by_ok r is then = on_ok_weaker r then is

by_err : {T E P Q : Type 0} (r : Result T E) → OnErr r P → (P → Q) → OnErr r Q
by_err r is then = on_err_weaker r then is

-- where the journal is not opened
pub returns-in_err-write-clause-in_order : goal.returns-in_err-write-clause-in_order
returns-in_err-write-clause-in_order g c =
    let p = err_from_is_err_and c.from_residual.result c.from_residual.ensures.1 in
    let first = g.H.Host.told c.args.host.now in
    let now = g.H.Host.told c.write.new.self in
    let sites = c.args.sites.now in
    let left = now.left Capture in
    rw p.1 (λ capture told.
    stops_at_first c.args.setup.now sites capture left c.legal_transcripts.ensures.start []
    (inl (none_cut sites.stations capture left (c.write.ensures.frame.inputs Capture ∙ told)))
    first now c.in_err-write.ensures.refused
    (c.write.ensures.frame.other_output Out (λ same. outputs_differ (sym same))))

-- Where it is, nothing is appended by that.
opened : (g : given.Over) (c : In_ok-write g)
    → Appends ((g.H.Host.told c.args.host.now).held Journal)
    ((g.H.Host.told c.write.new.self).held Journal) []
opened g c = search rules

pub returns-in_err-progress-clause-in_order : goal.returns-in_err-progress-clause-in_order
returns-in_err-progress-clause-in_order g c =
    let p = err_from_is_err_and c.from_residual-in_err-progress.result
    c.from_residual-in_err-progress.ensures.1 in
    let first = g.H.Host.told c.args.host.now in
    let now = g.H.Host.told c.write.new.self in
    let sites = c.args.sites.now in
    let left = now.left Capture in
    let open_at = (goal.at.returns-in_err-progress-clause-in_order g c).In_ok-write in
    rw p.1 (λ capture told.
    begun_from c.args.setup.now sites capture left first now now (opened g open_at)
    (c.write.ensures.frame.other_output Out (λ same. outputs_differ (sym same)))
    (stops_at_first c.args.setup.now sites capture left c.legal_transcripts.ensures.start []
    (inl (none_cut sites.stations capture left (c.write.ensures.frame.inputs Capture ∙ told)))
    now now refl refl))

-- the beginning of its rounds
begun : (g : given.Over) (c : In_ok-progress g) (id : CentreId)
    → IsOf c.args.setup.now c.args.sites.now id → IsNew id c.args.centre.now
    → HasBegun id c.args.setup.now c.args.sites.now c.in_ok-progress.progress c.args.centre.now
begun g c id of is =
    begins c.legal_transcripts.ensures.start id c.args.setup.now c.args.sites.now
    c.in_ok-progress.progress c.args.centre.now of is c.in_ok-progress.ensures.nothing
    c.in_ok-progress.ensures.desks

pub put_segments-requires-clause-at : goal.put_segments-requires-clause-at
put_segments-requires-clause-at g c κs within =
    let at = (goal.at.put_segments-requires-clause-at g c).In_ok-progress in
    let (id, of, is) = c.requires in
    (id, c.args.setup.now, (begun g at id of is).worked.at)

pub returns-in_err-ended-clause-in_order : goal.returns-in_err-ended-clause-in_order
returns-in_err-ended-clause-in_order g c =
    let p = err_from_is_err_and c.from_residual-in_err-ended.result
    c.from_residual-in_err-ended.ensures.1 in
    let told_of = g.H.Host.told in
    let setup = c.args.setup.now in
    let now = told_of c.put_segments.new.host in
    let start = goal.at.returns-in_err-ended-clause-in_order g c in
    let (id, of, is) = c.requires in
    rw p.1 (λ capture told.
    begun_from setup c.args.sites.now capture (now.left Capture) (told_of c.args.host.now)
    (told_of c.write.new.self) now (opened g start.In_ok-write)
    (c.write.ensures.frame.other_output Out (λ same. outputs_differ (sym same)))
    (c.in_err-ended.ensures.in_order id setup (begun g start.In_ok-progress id of is) capture
    (c.write.ensures.frame.inputs Capture ∙ told)))

pub put_last-requires-clause-at : goal.put_last-requires-clause-at
put_last-requires-clause-at g c κs within =
    let at = (goal.at.put_last-requires-clause-at g c).In_ok-progress in
    let (id, of, is) = c.requires in
    let now = c.in_ok-ended.ensures.at id c.args.setup.now (begun g at id of is).worked.at in
    (id, c.args.setup.now, now.0, now.1)

pub returns-clause-between : goal.returns-clause-between
returns-clause-between g c =
    let setup = c.args.setup.now in
    let at = (goal.at.returns-clause-between g c).In_ok-progress in
    by_ok c.put_last.result c.put_last.ensures.at (λ between id of is.
    let now = c.in_ok-ended.ensures.at id setup (begun g at id of is).worked.at in
    (now.0, between id setup now.0 now.1))

pub returns-clause-centre : goal.returns-clause-centre
returns-clause-centre g c =
    let at = g.H.Host.told in
    let ended = c.in_ok-ended.ended in
    let start = goal.at.returns-clause-centre g c in
    replays_through c.args.setup.now c.args.sites.now c.put_segments.new.progress ended.counted
    ended.tail c.args.centre.now c.put_segments.new.centre c.put_last.new.centre
    (at c.args.host.now) (at c.write.new.self) (at c.put_segments.new.host)
    (at c.put_last.new.host) c.put_last.result c.put_last.ensures.written
    (λ id of is. c.in_ok-ended.ensures.written id c.args.setup.now
    (begun g start.In_ok-progress id of is)) (opened g start.In_ok-write)
    (c.write.ensures.frame.other_output Out (λ same. outputs_differ (sym same)))
    (c.write.ensures.frame.inputs Capture) (c.put_last.ensures.inputs Capture)

pub returns-clause-texts : goal.returns-clause-texts
returns-clause-texts g c =
    let at = g.H.Host.told in
    let ended = c.in_ok-ended.ended in
    let (id, of, is) = c.requires in
    replays_capture c.args.setup.now c.args.sites.now c.put_segments.new.progress ended.counted
    ended.tail c.args.centre.now c.put_segments.new.centre c.put_last.new.centre
    (at c.args.host.now) (at c.write.new.self) (at c.put_segments.new.host)
    (at c.put_last.new.host) c.put_last.result (returns-clause-centre g c) id of is

pub returns-clause-in_order : goal.returns-clause-in_order
returns-clause-in_order g c =
    let told_of = g.H.Host.told in
    let setup = c.args.setup.now in
    let opened_at = told_of c.write.new.self in
    let now = told_of c.put_last.new.host in
    let left = now.left Capture in
    let start = goal.at.returns-clause-in_order g c in
    let (id, of, is) = c.requires in
    by_err c.put_last.result c.put_last.ensures.in_order (λ stops capture told.
    let wrote = c.in_ok-ended.ensures.written id setup (begun g start.In_ok-progress id of is)
    capture (c.write.ensures.frame.inputs Capture ∙ told) in
    begun_from setup c.args.sites.now capture left (told_of c.args.host.now) opened_at now
    (opened g start.In_ok-write)
    (c.write.ensures.frame.other_output Out (λ same. outputs_differ (sym same)))
    (stops id setup wrote.done wrote.last opened_at wrote.written capture left (record {
      read = subst (IsReadToEnd MOST_RECORDS capture) (sym (c.put_last.ensures.inputs Capture))
          wrote.read;
      capture_is = wrote.capture_is;
    })))
