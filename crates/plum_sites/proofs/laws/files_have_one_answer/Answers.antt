use Rattle.plum_sites.proofs.OneStation.{stations_are_told}
use Rattle.plum_sites.proofs.OneTarget.{targets_are_told}
use Rattle.plum_sites.proofs.laws.files_have_one_answer.Goals as goal

pub returns-clause-stations : goal.returns-clause-stations
returns-clause-stations c = stations_are_told

pub returns-clause-targets : goal.returns-clause-targets
returns-clause-targets c = targets_are_told
