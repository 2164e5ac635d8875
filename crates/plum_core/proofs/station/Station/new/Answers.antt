use Rattle.plum_seq.specs.Keys.{with_fresh}
use Rattle.plum_core.proofs.station.Station.new.Goals as goal

pub returns : goal.returns
unfolding with_fresh
returns c = λ s. record { keys = c.new.ensures; engine = c.in_ok-new.ensures }
