-- What a file of sites states, for whatever sites its rows state.
use Rattle.std.specs.Prelude.{◌≡◌, ◌≢◌, ◌⊎◌, ℕ, ◌+◌, List, ◌∷◌, ◌++◌, length}
use Rattle.plum_sites.specs.declared.fault.SiteFault.{SiteFault}
use Rattle.plum_sites.specs.declared.fault.SiteFault.TheVariants as faults
use Rattle.plum_sites.specs.declared.fault.SitesRefusal.{SitesRefusal}
use Rattle.plum_sites.specs.declared.fault.SitesRefusal.TheVariants as refusals
use Rattle.std.specs.List.{AllZip}
use Rattle.plum_sites.specs.Records.{AreRecordsOf}

-- of a refusal for a fault, what holds of the fault; memory may be wanting at any time
abbrev pub IfFault : SitesRefusal → (SiteFault → Type 0) → Type 0
IfFault (refusals.Sites fault) P = P fault
IfFault refusals.NoMemory P = Unit {0}

-- Some row below the header is the first at fault: those before it state sites, one each, that are
-- lawful, and this is what is wrong first with it. The header is row 1.
abbrev pub HasRowFault : {X : Type 0} → (List (List ℕ) → X → Type 0) → (List X → Type 0)
    → (List X → List (List ℕ) → ℕ → SiteFault → Type 0) → List (List (List ℕ)) → SiteFault → Type 0
HasRowFault {X} States AreLawful IsFirstFault rows fault =
    (before : List (List (List ℕ))) × (row : List (List ℕ)) × (after : List (List (List ℕ)))
    × (sites : List X) × (rows ≡ before ++ row ∷ after) × AllZip States before sites
    × AreLawful sites × IsFirstFault sites row (length before + 2) fault

-- the records are the header and rows that state these sites, one each, which are lawful
abbrev pub StateSites : {X : Type 0} → List (List ℕ) → (List (List ℕ) → X → Type 0)
    → (List X → Type 0) → List (List (List ℕ)) → List X → Type 0
StateSites header States AreLawful records sites =
    (rows : List (List (List ℕ))) × (records ≡ header ∷ rows) × AllZip States rows sites
    × AreLawful sites

-- the records do not begin with the header, or they do and a row below it is at fault
abbrev pub HasFault : {X : Type 0} → List (List ℕ) → (List (List ℕ) → X → Type 0)
    → (List X → Type 0) → (List X → List (List ℕ) → ℕ → SiteFault → Type 0)
    → List (List (List ℕ)) → SiteFault → Type 0
HasFault header States AreLawful IsFirstFault records fault =
    ((fault ≡ faults.Header) × ((rows : List (List (List ℕ))) → records ≢ header ∷ rows))
    ⊎ ((rows : List (List (List ℕ))) × (records ≡ header ∷ rows)
    × HasRowFault States AreLawful IsFirstFault rows fault)

-- the bytes of a file that states these sites
abbrev pub AreSitesOf : {X : Type 0} → List (List ℕ) → (List (List ℕ) → X → Type 0)
    → (List X → Type 0) → List ℕ → List X → Type 0
AreSitesOf header States AreLawful bytes sites =
    (records : List (List (List ℕ))) × AreRecordsOf bytes records
    × StateSites header States AreLawful records sites

-- what is wrong first with the bytes of a file
abbrev pub IsFaultOf : {X : Type 0} → List (List ℕ) → (List (List ℕ) → X → Type 0)
    → (List X → Type 0) → (List X → List (List ℕ) → ℕ → SiteFault → Type 0) → List ℕ
    → SiteFault → Type 0
IsFaultOf header States AreLawful IsFirstFault bytes fault =
    (records : List (List (List ℕ))) × AreRecordsOf bytes records
    × HasFault header States AreLawful IsFirstFault records fault
