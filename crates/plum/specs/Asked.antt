-- What the code holds of a job, and which command it names.
use Rattle.plum.specs.declared.grammar.CommandName.{CommandName}
use Rattle.plum.specs.declared.grammar.CommandName.TheVariants as names
use Rattle.plum.specs.declared.job.Job.{Job as Words}
use Rattle.plum.specs.declared.job.Job.TheVariants.{Replay, Station, Check, Drill}
use Rattle.plum.specs.Job.{Job, replay, station, check, drill}

abbrev pub job_in : Words → Job
job_in (Replay setup stations targets capture journal) =
    replay setup.now stations.now targets.now capture.now journal.now
job_in (Station setup stations capture code) =
    station setup.now stations.now capture.now code
job_in (Check setup stations targets capture) =
    check setup.now stations.now targets.now capture.now
job_in (Drill seed stations seconds) = drill seed stations seconds

-- the command of a job
abbrev pub name_of : Job → CommandName
name_of (replay setup stations targets capture journal) = names.Replay
name_of (station setup stations capture code) = names.Station
name_of (check setup stations targets capture) = names.Check
name_of (drill seed stations seconds) = names.Drill
