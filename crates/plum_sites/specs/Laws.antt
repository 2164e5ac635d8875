-- What a site file tells: one list of sites, or one fault.
use Rattle.std.specs.Prelude.{◌≡◌, ◌⊎◌, ℕ, List}
use Rattle.plum_sites.specs.declared.fault.SiteFault.{SiteFault}
use Rattle.plum_sites.specs.Stations.{AreStationsOf, IsStationFaultOf}
use Rattle.plum_sites.specs.Targets.{AreTargetsOf, IsTargetFaultOf}

-- There is a list of sites or a fault, and there are no two lists, no two faults, and no list
-- beside a fault.
pub record HasOneAnswer {X : Type 0} (AreSitesOf : List X → Type 0)
    (IsFaultOf : SiteFault → Type 0) : Type 0 where
  pub some : ((xs : List X) × AreSitesOf xs) ⊎ ((f : SiteFault) × IsFaultOf f)
  pub sites : (xs ys : List X) → AreSitesOf xs → AreSitesOf ys → xs ≡ ys
  pub fault : (f g : SiteFault) → IsFaultOf f → IsFaultOf g → f ≡ g
  pub either : (xs : List X) (f : SiteFault) → AreSitesOf xs → IsFaultOf f → ⊥

-- each station file has one answer
abbrev pub StationsAreTold : Type 0
StationsAreTold = (bytes : List ℕ) → HasOneAnswer (AreStationsOf bytes) (IsStationFaultOf bytes)

-- each target file has one answer
abbrev pub TargetsAreTold : Type 0
TargetsAreTold = (bytes : List ℕ) → HasOneAnswer (AreTargetsOf bytes) (IsTargetFaultOf bytes)
