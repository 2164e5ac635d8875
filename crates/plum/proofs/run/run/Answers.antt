use Rattle.std.specs.Prelude.{map, string_bytes}
use Rattle.plum.proofs.Accepted.{has_size}
use Rattle.plum.proofs.Commands.{holds_of_asked}
use Rattle.plum.proofs.Endings.{unread_appends}
use Rattle.plum.proofs.Promises.{answers_soundly}
use Rattle.plum.proofs.run.run.Goals as goal

pub work-requires : goal.work-requires
work-requires g c = (
  c.type_bounds.sync-R,
  (
    c.type_bounds.sync-G,
    has_size (map string_bytes c.args.words.now) _
        (rw c.in-Ok-Some.field-0-is at c.in-Ok-Some.ensures.job),
  ),
)

pub returns-in-Ok-Some-clause-complete : goal.returns-in-Ok-Some-clause-complete
returns-in-Ok-Some-clause-complete g c =
    holds_of_asked _ _ _ (rw c.in-Ok-Some.field-0-is at c.in-Ok-Some.ensures.job)
    (answers_soundly _ c.work.result _ _ c.work.ensures.ended)

pub returns-in-Ok-Some-clause-complete_over_lawful_files :
    goal.returns-in-Ok-Some-clause-complete_over_lawful_files
returns-in-Ok-Some-clause-complete_over_lawful_files g c =
    holds_of_asked _ _ _ (rw c.in-Ok-Some.field-0-is at c.in-Ok-Some.ensures.job)
    c.work.ensures.lawful

pub returns-in-Err-clause-outputs : goal.returns-in-Err-clause-outputs
returns-in-Err-clause-outputs g c = unread_appends _ _
