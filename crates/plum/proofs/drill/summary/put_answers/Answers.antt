use Rattle.std.proofs.Common.{◌≡◌, List, length, arith, sym, ap, ◌∙◌, Some}
use Rattle.std.proofs.lemmas.Option.{slice_get-get_or, slice_get-map}
use Rattle.std.proofs.lemmas.Slice.Zip.{AllZip-long}
use Rattle.std.specs.Option.{option_map}
use Rattle.std.specs.Prelude.{slice_get}
use Rattle.plum_base.specs.declared.sites.TargetSite.{TargetSite}
use Rattle.plum_base.specs.Sites.{areas_of, targets_of}
use Rattle.plum_replay.proofs.Numbered.{AllZip-at}
use Rattle.plum_snap.specs.Sessions.{SessionView}
use Rattle.plum.specs.Summarized.{last_answers}
use Rattle.plum.proofs.Answered.{area_more, no_area_more}
use Rattle.plum.proofs.drill.summary.put_answers.Goals as goal

pub bounds-sessions-a : goal.bounds-sessions-a
bounds-sessions-a c =
    let long = AllZip-long _ (areas_of c.args.sites.now.targets) c.args.sessions.now c.requires in
    omega (arith, long, c.areas-a-end.ensures)

pub put_area-requires : goal.put_area-requires
put_area-requires c =
    let targets = c.args.sites.now.targets in
    let sessions = c.args.sessions.now in
    let a = c.loop-a.a in
    let area = c.area_name-area.result in
    let session = c.index-sessions-a.result in
    let long = AllZip-long _ (areas_of targets) sessions c.requires in
    let here : slice_get sessions a ≡ Some session =
    slice_get-get_or sessions a session (omega (arith, long, c.areas-a-end.ensures))
    ∙ ap Some (sym c.index-sessions-a.is) in
    ap length (c.as_slice-answers.ensures ∙ ap (λ r. r.answers) c.last.ensures)
    ∙ AllZip-at (λ area (session : SessionView).
    length session.last.answers ≡ length (targets_of area targets)) (areas_of targets) sessions a
    area session c.requires c.area_name-area.ensures here
    ∙ ap (λ (ts : List TargetSite). length (targets_of area ts)) (sym c.targets.ensures.value)

pub loop-a-preserved : goal.loop-a-preserved
loop-a-preserved c =
    let targets = c.args.sites.now.targets in
    let sessions = c.args.sessions.now in
    let a = c.loop-a.a in
    let area = c.area_name-area.result in
    let session = c.index-sessions-a.result in
    let long = AllZip-long _ (areas_of targets) sessions c.requires in
    let here : slice_get sessions a ≡ Some session =
    slice_get-get_or sessions a session (omega (arith, long, c.areas-a-end.ensures))
    ∙ ap Some (sym c.index-sessions-a.is) in
    let answers_in = λ (session : SessionView). session.last.answers in
    let answered = slice_get-map answers_in sessions a ∙ ap (option_map answers_in) here in
    area_more c.args.m targets (last_answers sessions) a area session.last.answers
    c.loop-a.summary c.put_area.new.summary _ c.area_name-area.ensures answered
    (rw (c.targets.ensures.value, c.as_slice-answers.ensures, c.last.ensures)
    at c.in_ok-put_area.ensures) c.loop-a.invariant

pub returns : goal.returns
returns c =
    no_area_more c.args.m c.args.sites.now.targets (last_answers c.args.sessions.now) c.loop-a.a
    c.loop-a.summary _ (omega (arith, c.loop-a-test.false, c.loop-a.auto, c.areas-a-end.ensures))
    c.loop-a.invariant
