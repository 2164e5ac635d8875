use Rattle.plum_packet.proofs.Fronts.{given_begins}
use Rattle.plum_packet.proofs.bodies.given_bodies_begin.Goals as goal

pub returns : goal.returns
returns c = given_begins
