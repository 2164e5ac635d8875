use Rattle.plum.proofs.Commands.{asked_plainly, holds_of_asked}
use Rattle.plum.proofs.Endings.{unread_appends}
use Rattle.plum.proofs.Promises.{answers_soundly}
use Rattle.plum.proofs.run.run_plain.Goals as goal

pub work_plain-requires : goal.work_plain-requires
work_plain-requires g c = record {
  plain = asked_plainly _ _ (rw c.in-Ok-Some.field-0-is at c.in-Ok-Some.ensures.job);
}

pub returns-in-Ok-Some-clause-complete : goal.returns-in-Ok-Some-clause-complete
returns-in-Ok-Some-clause-complete g c =
    holds_of_asked _ _ _ (rw c.in-Ok-Some.field-0-is at c.in-Ok-Some.ensures.job)
    (answers_soundly _ c.work_plain.result _ _ c.work_plain.ensures.ended)

pub returns-in-Ok-Some-clause-complete_over_lawful_files :
    goal.returns-in-Ok-Some-clause-complete_over_lawful_files
returns-in-Ok-Some-clause-complete_over_lawful_files g c =
    holds_of_asked _ _ _ (rw c.in-Ok-Some.field-0-is at c.in-Ok-Some.ensures.job)
    c.work_plain.ensures.lawful

pub returns-in-Err-clause-outputs : goal.returns-in-Err-clause-outputs
returns-in-Err-clause-outputs g c = unread_appends _ _
