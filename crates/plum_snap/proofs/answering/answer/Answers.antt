use Rattle.std.proofs.Common.{◌∙◌, ap, length, length-set}
use Rattle.std.proofs.lemmas.List.{take_all}
use Rattle.plum_base.proofs.ByNumber.{as_many}
use Rattle.plum_snap.proofs.Filling.{one_answer_more, target_at}
use Rattle.plum_snap.proofs.answering.answer.Goals as goal

-- one answer more
pub loop-i-preserved : goal.loop-i-preserved
loop-i-preserved c =
    let i = c.loop-i.i in
    let answers = c.loop-i.answers in
    let numbers = c.args.numbers.now in
    record {
      room = ap length c.set.ensures ∙ length-set answers i c.predict.result
          ∙ c.loop-i.invariant.room;
      so_far = λ sites entries targets stands are.
          let t = target_at sites.targets targets numbers i (record { 0 = 0 }) are
          c.loop-i-test.true in
          let predicted = rw t.2 at (c.predict.ensures sites entries stands) in
          rw c.set.ensures
          (one_answer_more _ targets answers i t.0 c.predict.result
          (c.loop-i.invariant.so_far sites entries targets stands are) t.1
          (rw c.loop-i.invariant.room c.loop-i-test.true) predicted);
    }

pub returns-clause-predictions : goal.returns-clause-predictions
returns-clause-predictions c = λ sites entries targets stands are.
    let i = c.loop-i.i in
    let answers = c.loop-i.answers in
    let long = as_many sites.targets c.args.numbers.now targets are in
    let all_targets = take_all i targets (rw long c.loop-i-test.false) in
    let all_answers = take_all i answers (rw c.loop-i.invariant.room c.loop-i-test.false) in
    rw (all_targets, all_answers) at (c.loop-i.invariant.so_far sites entries targets stands are)
