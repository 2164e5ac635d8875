use Rattle.std.specs.Prelude.{Some}
use Rattle.plum_lanes.specs.Opening.{basis_of}
use Rattle.plum_lanes.proofs.steps.make.Given as goal

abbrev pub ghosts-name : goal.ghosts-name
ghosts-name a = record { basis = Some (basis_of a.setup.now a.sites.now) }
