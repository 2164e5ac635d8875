use Rattle.std.proofs.Common.{◌≡◌, min, length, slice_get, Some, refl, sym, ap, ◌∙◌, arith}
use Rattle.std.proofs.lemmas.List.{length_push}
use Rattle.std.proofs.lemmas.Option.{slice_get_read, get_or_from_slice_get}
use Rattle.std.proofs.lemmas.Slice.Zip.{zip_turn, zip_end}
use Rattle.plum_base.proofs.ByNumber.{numbers_at, as_many}
use Rattle.plum_replay.proofs.PartTexts.{answer_more, no_answer_more}
use Rattle.plum_replay.proofs.section.put_answers.Goals as goal

pub loop-target-preserved : goal.loop-target-preserved
loop-target-preserved c = λ those are.
    let sites = c.args.sites.now in
    let numbers = c.args.targets.now in
    let answers = c.args.answers.now in
    let n = length c.loop-target.yielded in
    let t = c.in-Some.target.now in
    let answer = c.in-Some.answer.now in
    let site = c.index-sites-target.result in
    let turn =
    zip_turn numbers answers c.loop-target.yielded _ _ c.next.new.self _ (cc) (cc)
    c.loop-target.yielded_by (c.in-Some.target, c.in-Some.answer) c.in-Some.is
    c.next.ensures.steps in
    let at =
    numbers_at sites numbers those n t are
    (slice_get_read numbers (length numbers) n t refl turn.0 (turn.2 t)) in
    let is_site : slice_get those n ≡ Some site =
    at.1
    ∙ ap Some (sym (c.index-sites-target.is ∙ get_or_from_slice_get sites t.0 at.0 site at.2)) in
    let is_answer : slice_get answers n ≡ Some answer =
    slice_get_read answers (length answers) n answer refl turn.1 (turn.3 answer) in
    rw (length_push c.loop-target.yielded (c.in-Some.target, c.in-Some.answer))
    (answer_more c.args.m those answers n site answer c.loop-target.out c.write_out.new.out _
    is_site is_answer (rw c.answer_line.ensures at c.in_ok-write_out.ensures.ok)
    (c.loop-target.invariant those are))

pub returns : goal.returns
returns c = λ those are.
    let numbers = c.args.targets.now in
    let answers = c.args.answers.now in
    let n = length c.loop-target.yielded in
    let long = as_many c.args.sites.now numbers those are in
    let ended =
    zip_end numbers answers c.loop-target.yielded _ _ c.next.new.self _ (cc) (cc)
    c.loop-target.yielded_by c.in-None.is c.next.ensures.steps in
    let all : n ≡ min (length those) (length answers) = omega arith in
    no_answer_more c.args.m those answers n c.loop-target.out _ all
    (c.loop-target.invariant those are)
