use Rattle.std.proofs.Common.{◌≡◌, ◌+◌, length, take, ap, sym, subst, ◌∙◌, arith, rules}
use Rattle.std.proofs.Common.{slice_get, Some}
use Rattle.std.proofs.lemmas.List.{take_all}
use Rattle.std.proofs.lemmas.Option.{slice_get-get_or}
use Rattle.plum_base.specs.Sites.{targets_of}
use Rattle.plum_replay.proofs.PartTexts.{answer_more, no_answer_more}
use Rattle.plum.proofs.Answered.{as_many_of_others, has_answer, nth_of, one_more_own, target_is}
use Rattle.plum.proofs.drill.summary.put_area.Goals as goal
use Rattle.plum.proofs.drill.summary.put_area.Goals.{then-eq+in_ok-write_out, else-eq}

pub bounds-answers-answered : goal.bounds-answers-answered
bounds-answers-answered c =
    let t = c.target-item.result in
    has_answer c.args.area.now c.args.targets.now c.loop-target.target-index t
    c.loop-target.answered c.args.answers.now
    (target_is c.args.area.now c.args.targets.now c.loop-target.target-index t
    c.loop-target-test.true c.target-item.is) (sym c.eq.ensures ∙ c.if-eq.true)
    c.loop-target.invariant.count c.requires

pub offset_bounds-answers-answered : goal.offset_bounds-answers-answered
offset_bounds-answers-answered c =
    let t = c.target-item.result in
    let less = has_answer c.args.area.now c.args.targets.now c.loop-target.target-index t
    c.loop-target.answered c.args.answers.now
    (target_is c.args.area.now c.args.targets.now c.loop-target.target-index t
    c.loop-target-test.true c.target-item.is) (sym c.eq.ensures ∙ c.if-eq.true)
    c.loop-target.invariant.count c.requires in
    search rules

pub overflow_add-answered : goal.overflow_add-answered
overflow_add-answered c =
    let t = c.target-item.result in
    let less = has_answer c.args.area.now c.args.targets.now c.loop-target.target-index t
    c.loop-target.answered c.args.answers.now
    (target_is c.args.area.now c.args.targets.now c.loop-target.target-index t
    c.loop-target-test.true c.target-item.is) (sym c.eq.ensures ∙ c.if-eq.true)
    c.loop-target.invariant.count c.requires in
    search rules

pub loop-target-preserved : goal.loop-target-preserved
loop-target-preserved c =
    let area = c.args.area.now in
    let targets = c.args.targets.now in
    let answers = c.args.answers.now in
    let those = targets_of area targets in
    let i = c.loop-target.target-index in
    let n = c.loop-target.answered in
    let t = c.target-item.result in
    let within = c.loop-target-test.true in
    let is = c.target-item.is in
    let count = c.loop-target.invariant.count in
    elim c.if-eq.branch [
      | then-eq+in_ok-write_out w ↦
          let here = sym c.eq.ensures ∙ w.if-eq.true in
          let listed = target_is area targets i t within is in
          let is_site : slice_get those n ≡ Some t =
          subst (λ k. slice_get those k ≡ Some t) (sym count) (nth_of area targets i t listed here)
          in
          let less = has_answer area targets i t n answers listed here count c.requires in
          record {
            count = w.answered-is ∙ ap (λ n. n + 1) count
                ∙ sym (one_more_own area targets i t within is here);
            written = rw (w.summary-is, w.answered-is)
                (answer_more c.args.m those answers n t _ c.loop-target.summary w.write_out.new.out
                _
                is_site (slice_get-get_or answers n _ less)
                (rw w.answer_line.ensures at w.in_ok-write_out.ensures.ok)
                c.loop-target.invariant.written);
          }
      | else-eq w ↦
          let other = sym c.eq.ensures ∙ w.if-eq.false in
          record {
            count = w.answered-is ∙ count ∙ sym (as_many_of_others area targets i t within is
                other);
            written = rw (w.summary-is, w.answered-is) c.loop-target.invariant.written;
          }
    ]

pub returns : goal.returns
returns c =
    let area = c.args.area.now in
    let targets = c.args.targets.now in
    let all : take c.loop-target.target-index targets ≡ targets =
    take_all c.loop-target.target-index targets (omega (arith, c.loop-target-test.false)) in
    let long = c.loop-target.invariant.count ∙ ap (λ ts. length (targets_of area ts)) all in
    no_answer_more c.args.m (targets_of area targets) c.args.answers.now c.loop-target.answered
    c.loop-target.summary _ (omega (arith, long, c.requires)) c.loop-target.invariant.written
