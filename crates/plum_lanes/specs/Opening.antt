-- Lanes and their gatherer, as they were opened together (the project's own).
use Rattle.std.specs.Prelude.{length}
use Rattle.atomic_table.specs.Seated.{TableId}
use Rattle.plum_base.specs.declared.setup.Setup.{Setup}
use Rattle.plum_base.specs.Sites.{SitesView}
use Rattle.plum_lanes.specs.declared.rule.Basis.{Basis}

-- Which opening it was: the ring that holds the queue, and what it was opened for.
pub record Opening : Type 0 where
  pub ring : TableId
  pub basis : Basis

-- what a setup and sites are to it
abbrev pub basis_of : Setup → SitesView → Basis
basis_of setup sites = record { setup = setup; stations = length sites.stations }
