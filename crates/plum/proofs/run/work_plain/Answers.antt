use Rattle.std.proofs.Common.{refl}
use Rattle.plum.proofs.Commands.{ends_with}
use Rattle.plum.proofs.Promises.{answers_lawfully}
use Rattle.plum.proofs.run.work_plain.Goals as goal

pub returns-in-Station-clause-ended : goal.returns-in-Station-clause-ended
returns-in-Station-clause-ended g c =
    rw c.in-Station.is (ends_with _ c.show_station.result c.status_of.result _ _
    c.status_of.ensures (c.show_station.ensures.done _ refl) (c.show_station.ensures.ended _ refl))

pub returns-in-Station-clause-lawful : goal.returns-in-Station-clause-lawful
returns-in-Station-clause-lawful g c =
    answers_lawfully c.files_have_one_answer.ensures.stations
    c.files_have_one_answer.ensures.targets _ c.status_of.result _ _
    (returns-in-Station-clause-ended g c)

pub returns-in-Check-clause-ended : goal.returns-in-Check-clause-ended
returns-in-Check-clause-ended g c =
    rw c.in-Check.is (ends_with _ c.check_files.result c.status_of-in-Check.result _ _
    c.status_of-in-Check.ensures (c.check_files.ensures.done _ tt)
    (c.check_files.ensures.ended _ tt))

pub returns-in-Check-clause-lawful : goal.returns-in-Check-clause-lawful
returns-in-Check-clause-lawful g c =
    answers_lawfully c.files_have_one_answer.ensures.stations
    c.files_have_one_answer.ensures.targets _ c.status_of-in-Check.result _ _
    (returns-in-Check-clause-ended g c)
