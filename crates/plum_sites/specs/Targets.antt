-- The target file (the project's own format).
use Rattle.std.specs.Prelude.{◌≡◌, ◌≢◌, ◌<◌, ◌⊎◌, ℕ, ℤ, ◌≤◌, List, [], ◌∷◌, ◌++◌, length, take}
use Rattle.std.specs.Prelude.{drop, codes, All}
use Rattle.plum_base.specs.declared.sites.TargetSite.{TargetSite}
use Rattle.plum_base.specs.Levels.{IsFactor}
use Rattle.plum_base.specs.Name.{IsName}
use Rattle.plum_base.specs.Sites.{IsPlace, MOST_TARGETS, MOST_AREAS, areas_of, IsNameTaken}
use Rattle.plum_base.specs.Sites.{AreTargets}
use Rattle.plum_sites.specs.declared.fault.SiteFault.{SiteFault}
use Rattle.plum_sites.specs.declared.fault.SiteFault.TheVariants as faults
use Rattle.plum_sites.specs.Fields.{Spells, IsNumber}
use Rattle.std.specs.List.{AllZip}
use Rattle.plum_sites.specs.Records.{AreRecordsOf}
use Rattle.plum_sites.specs.Files.{StateSites, HasFault}

-- the columns
abbrev pub target_header : List (List ℕ)
target_header = codes "name" ∷ codes "area" ∷ codes "x" ∷ codes "y" ∷ codes "factor" ∷ []

-- the two names are names, and each number of a row is in its range
abbrev pub AreTargetFields : List ℕ → List ℕ → ℤ → ℤ → ℤ → Type 0
AreTargetFields name area x y factor =
    IsName name × IsName area × IsPlace (record { x = x; y = y }) × IsFactor (record { 0 = factor })

-- a row states a target: its first two fields are the target's names, the others spell its
-- numbers, and each is in its range
pub record StatesTarget (row : List (List ℕ)) (t : TargetSite) : Type 0 where
  pub names : take 2 row ≡ t.name ∷ t.area ∷ []
  pub numbers : AllZip Spells (drop 2 row) (t.at.x ∷ t.at.y ∷ t.factor.0 ∷ [])
  pub ranges : AreTargetFields t.name t.area t.at.x t.at.y t.factor.0

-- what is wrong first with the n-th row, behind rows that state the targets before
abbrev pub IsFirstTargetFault : List TargetSite → List (List ℕ) → ℕ → SiteFault → Type 0
IsFirstTargetFault before row n faults.Header = ⊥
IsFirstTargetFault before row n (faults.Columns k) = (k ≡ n) × (length row ≢ length target_header)
IsFirstTargetFault before row n (faults.Number k) =
    (k ≡ n) × (length row ≡ length target_header) × ¬ (All IsNumber (drop 2 row))
IsFirstTargetFault before row n (faults.Range k) =
    (k ≡ n) × (name area : List ℕ) × (x y factor : ℤ) × (take 2 row ≡ name ∷ area ∷ [])
    × AllZip Spells (drop 2 row) (x ∷ y ∷ factor ∷ []) × ¬ (AreTargetFields name area x y factor)
IsFirstTargetFault before row n (faults.Twice k) =
    (k ≡ n) × (t : TargetSite) × StatesTarget row t × IsNameTaken before t.name
IsFirstTargetFault before row n (faults.TooMany k) =
    (k ≡ n) × (t : TargetSite) × StatesTarget row t × ¬ (IsNameTaken before t.name)
    × ((MOST_TARGETS ≤ length before) ⊎ (MOST_AREAS < length (areas_of (before ++ t ∷ []))))

-- records that state these targets
abbrev pub StateTargets : List (List (List ℕ)) → List TargetSite → Type 0
StateTargets records targets = StateSites target_header StatesTarget AreTargets records targets

-- what is wrong first with records
abbrev pub HaveTargetFault : List (List (List ℕ)) → SiteFault → Type 0
HaveTargetFault records fault =
    HasFault target_header StatesTarget AreTargets IsFirstTargetFault records fault

-- the bytes of a file that states these targets
abbrev pub AreTargetsOf : List ℕ → List TargetSite → Type 0
AreTargetsOf bytes targets =
    (records : List (List (List ℕ))) × AreRecordsOf bytes records × StateTargets records targets

-- what is wrong first with the bytes of a file
abbrev pub IsTargetFaultOf : List ℕ → SiteFault → Type 0
IsTargetFaultOf bytes fault =
    (records : List (List (List ℕ))) × AreRecordsOf bytes records × HaveTargetFault records fault
