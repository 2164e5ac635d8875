use Rattle.plum_core.proofs.Showing.{shows_its_value}
use Rattle.plum_core.proofs.laws.station_shows_its_value.Goals as goal

pub returns : goal.returns
returns c = λ setup stations s history table valid.
    shows_its_value setup stations s table history valid
