use Rattle.plum_seq.proofs.Greatest.{greatest_key-is_greatest, greatest_key-none}
use Rattle.plum_seq.proofs.Stations.{last-is_greatest}
use Rattle.plum_seq.proofs.laws.greatest_keys.Goals as goal

pub returns-clause-last : goal.returns-clause-last
returns-clause-last c = last-is_greatest

pub returns-clause-is : goal.returns-clause-is
returns-clause-is c = greatest_key-is_greatest

pub returns-clause-none : goal.returns-clause-none
returns-clause-none c = greatest_key-none
