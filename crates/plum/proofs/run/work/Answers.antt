use Rattle.plum.proofs.Commands.{ends_with}
use Rattle.plum.proofs.Promises.{answers_lawfully}
use Rattle.plum.proofs.run.work.Goals as goal

pub returns-in-Replay-clause-ended : goal.returns-in-Replay-clause-ended
returns-in-Replay-clause-ended g c =
    rw c.in-Replay.is (ends_with _ c.replay_files.result c.status_of.result _ _
    c.status_of.ensures (c.replay_files.ensures.done _ tt) (c.replay_files.ensures.ended _ tt))

pub returns-in-Replay-clause-lawful : goal.returns-in-Replay-clause-lawful
returns-in-Replay-clause-lawful g c =
    answers_lawfully c.files_have_one_answer.ensures.stations
    c.files_have_one_answer.ensures.targets _ c.status_of.result _ _
    (returns-in-Replay-clause-ended g c)

pub show_drill-requires : goal.show_drill-requires
show_drill-requires g c =
    (c.type_bounds.sync-R, (c.type_bounds.sync-G, rw c.in-Drill.is at c.requires.size))

pub returns-in-Drill-clause-ended : goal.returns-in-Drill-clause-ended
returns-in-Drill-clause-ended g c =
    rw c.in-Drill.is (ends_with _ c.show_drill.result c.status_of-in-Drill.result _ _
    c.status_of-in-Drill.ensures c.show_drill.ensures.done c.show_drill.ensures.ended)

pub returns-in-Drill-clause-lawful : goal.returns-in-Drill-clause-lawful
returns-in-Drill-clause-lawful g c =
    answers_lawfully c.files_have_one_answer.ensures.stations
    c.files_have_one_answer.ensures.targets _ c.status_of-in-Drill.result _ _
    (returns-in-Drill-clause-ended g c)
