use Rattle.std.proofs.Common.{◌≡◌, ◌∙◌, map, string_bytes, true, is_some, sym}
use Rattle.plum.specs.Job.{job_of}
use Rattle.plum.proofs.Accepted.{any_err, asked_some}
use Rattle.plum.proofs.job.read_words.Goals as goal

pub returns-in_err-job-in-Some-Replay-clause-err : goal.returns-in_err-job-in-Some-Replay-clause-err
returns-in_err-job-in-Some-Replay-clause-err c =
    let job = job_of (map string_bytes c.args.words.now) in
    any_err (is_some job ≡ true) c.from_residual.result
    (asked_some job c.in-Some-Replay.field-0 (sym c.command_of.ensures ∙ c.in-Some-Replay.is))

pub returns-in_err-job-in-Some-Station-clause-err :
    goal.returns-in_err-job-in-Some-Station-clause-err
returns-in_err-job-in-Some-Station-clause-err c =
    let job = job_of (map string_bytes c.args.words.now) in
    any_err (is_some job ≡ true) c.from_residual-in_err-job-in-Some-Station.result
    (asked_some job c.in-Some-Station.field-0 (sym c.command_of.ensures ∙ c.in-Some-Station.is))

pub returns-in_err-job-in-Some-Check-clause-err : goal.returns-in_err-job-in-Some-Check-clause-err
returns-in_err-job-in-Some-Check-clause-err c =
    let job = job_of (map string_bytes c.args.words.now) in
    any_err (is_some job ≡ true) c.from_residual-in_err-job-in-Some-Check.result
    (asked_some job c.in-Some-Check.field-0 (sym c.command_of.ensures ∙ c.in-Some-Check.is))

pub returns-in_err-job-in-Some-Drill-clause-err : goal.returns-in_err-job-in-Some-Drill-clause-err
returns-in_err-job-in-Some-Drill-clause-err c =
    let job = job_of (map string_bytes c.args.words.now) in
    any_err (is_some job ≡ true) c.from_residual-in_err-job-in-Some-Drill.result
    (asked_some job c.in-Some-Drill.field-0 (sym c.command_of.ensures ∙ c.in-Some-Drill.is))
