-- What the first records of a file tell of the file.
use Rattle.std.proofs.Common.{◌≡◌, ◌≢◌, ◌⊎◌, ◌<◌, ◌≤◌, ◌+◌, ℕ, List, [], ◌∷◌, ◌++◌, length}
use Rattle.std.proofs.Common.{sym, ap, ◌∙◌, subst, inl, inr, arith, append_assoc}
use Rattle.std.proofs.lemmas.List.{append-nil}
use Rattle.plum_sites.specs.declared.fault.SiteFault.{SiteFault}
use Rattle.plum_sites.specs.declared.fault.SitesRefusal.{SitesRefusal}
use Rattle.plum_sites.specs.declared.fault.SitesRefusal.TheVariants as refusals
use Rattle.plum_sites.specs.Files.{IfFault, StateSites, HasFault}
use Rattle.std.proofs.lemmas.Slice.Zip.{AllZip-long}

-- what follows of the fault of a refusal
pub if_fault : (e : SitesRefusal) (P Q : SiteFault → Type 0)
    → ((fault : SiteFault) → P fault → Q fault) → IfFault e P → IfFault e Q
if_fault (refusals.Sites fault) P Q follows is = follows fault is
if_fault refusals.NoMemory P Q follows is = tt

no_header : (header : List (List ℕ)) (first rest rows : List (List (List ℕ))) → 1 ≤ length first
    → ((below : List (List (List ℕ))) → first ≢ header ∷ below) → first ++ rest ≢ header ∷ rows
no_header header [] rest rows some none is = absurd (omega arith)
no_header header (x ∷ first) rest rows some none is =
    let both : x ∷ (first ++ rest) ≡ header ∷ rows = is in
    let same : x ≡ header = cc both in none first (ap (λ r. r ∷ first) same)

more_rows : {X : Type 0} (header : List (List ℕ)) (States : List (List ℕ) → X → Type 0)
    (AreLawful : List X → Type 0) (IsFirstFault : List X → List (List ℕ) → ℕ → SiteFault → Type 0)
    (first rest : List (List (List ℕ))) (fault : SiteFault) → 1 ≤ length first
    → HasFault header States AreLawful IsFirstFault first fault
    → HasFault header States AreLawful IsFirstFault (first ++ rest) fault
more_rows header States AreLawful IsFirstFault first rest fault some (inl none) =
    inl (none.0, λ rows. no_header header first rest rows some none.1)
more_rows header States AreLawful IsFirstFault first rest fault some (inr below) =
    let (rows, is, at) = below in
    let (before, row, after, sites, split, stated, lawful, wrong) = at in
    let longer = ap (λ r. r ++ rest) split ∙ append_assoc before (row ∷ after) rest in
    inr (
      rows ++ rest,
      ap (λ r. r ++ rest) is,
      (before, row, after ++ rest, sites, longer, stated, lawful, wrong),
    )

all_rows : (first rest : List (List (List ℕ))) → rest ≡ [] → first ≡ first ++ rest
all_rows first rest none = sym (ap (λ r. first ++ r) none ∙ append-nil first)

-- a fault of the first records is the file's
pub fault_of_first : {X : Type 0} (header : List (List ℕ)) (States : List (List ℕ) → X → Type 0)
    (AreLawful : List X → Type 0) (IsFirstFault : List X → List (List ℕ) → ℕ → SiteFault → Type 0)
    (first rest : List (List (List ℕ))) (wanted : ℕ) (fault : SiteFault) → 1 ≤ wanted
    → (rest ≡ []) ⊎ (wanted ≤ length first)
    → HasFault header States AreLawful IsFirstFault first fault
    → HasFault header States AreLawful IsFirstFault (first ++ rest) fault
fault_of_first header States AreLawful IsFirstFault first rest wanted fault some (inl none) at =
    subst (λ rows. HasFault header States AreLawful IsFirstFault rows fault)
    (all_rows first rest none) at
fault_of_first header States AreLawful IsFirstFault first rest wanted fault some (inr enough) at =
    more_rows header States AreLawful IsFirstFault first rest fault (omega arith) at

-- the sites of the first records are the file's, where they are fewer than the records wanted
pub sites_of_first : {X : Type 0} (header : List (List ℕ)) (States : List (List ℕ) → X → Type 0)
    (AreLawful : List X → Type 0) (first rest : List (List (List ℕ))) (wanted : ℕ) (sites : List X)
    → length sites + 1 < wanted → (rest ≡ []) ⊎ (wanted ≤ length first)
    → StateSites header States AreLawful first sites
    → StateSites header States AreLawful (first ++ rest) sites
sites_of_first header States AreLawful first rest wanted sites fewer (inl none) stated =
    subst (λ rows. StateSites header States AreLawful rows sites) (all_rows first rest none) stated
sites_of_first header States AreLawful first rest wanted sites fewer (inr enough) stated =
    let size = AllZip-long States stated.0 sites stated.2 in
    let whole = ap length stated.1 in
    absurd (omega arith)
