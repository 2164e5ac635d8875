use Rattle.plum_core.proofs.Once.{IsEachOnce-valid}
use Rattle.plum_core.proofs.laws.valid_histories_hold_each_once.Goals as goal

pub returns : goal.returns
returns c = IsEachOnce-valid
