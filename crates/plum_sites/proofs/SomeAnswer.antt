-- A file of sites has an answer, where a row behind lawful sites adds a site or is at fault.
use Rattle.std.proofs.Common.{◌≡◌, ◌⊎◌, ◌+◌, ℕ, List, [], ◌∷◌, ◌++◌, length, refl, sym, ap, subst}
use Rattle.std.proofs.Common.{inl, inr, append_assoc}
use Rattle.std.proofs.lemmas.List.{append-nil}
use Rattle.std.specs.List.{AllZip}
use Rattle.plum_sites.specs.declared.fault.SiteFault.{SiteFault}
use Rattle.plum_sites.specs.declared.fault.SiteFault.TheVariants as faults
use Rattle.plum_sites.specs.Files.{StateSites, HasRowFault, HasFault, AreSitesOf, IsFaultOf}
use Rattle.std.proofs.lemmas.Slice.Zip.{all_zipped_more}
use Rattle.plum_sites.proofs.Known.{known_rows}
use Rattle.plum_sites.proofs.TheRecords.{some_records}

-- a site or a fault of the n-th row
abbrev pub IsDecided : {X : Type 0} → (List (List ℕ) → X → Type 0) → (List X → Type 0)
    → (List X → List (List ℕ) → ℕ → SiteFault → Type 0) → List X → List (List ℕ) → ℕ → Type 0
IsDecided {X} States AreLawful IsFirstFault sites row n =
    ((site : X) × States row site × AreLawful (sites ++ site ∷ []))
    ⊎ ((f : SiteFault) × IsFirstFault sites row n f)

abbrev Rows : Type 0
Rows = List (List (List ℕ))

abbrev IsRead : {X : Type 0} → (List (List ℕ) → X → Type 0) → (List X → Type 0)
    → (List X → List (List ℕ) → ℕ → SiteFault → Type 0) → Rows → Type 0
IsRead {X} States AreLawful IsFirstFault rows =
    ((sites : List X) × AllZip States rows sites × AreLawful sites)
    ⊎ ((f : SiteFault) × HasRowFault States AreLawful IsFirstFault rows f)

-- the rows behind those that state these sites
read_on : {X : Type 0} (States : List (List ℕ) → X → Type 0) (AreLawful : List X → Type 0)
    (IsFirstFault : List X → List (List ℕ) → ℕ → SiteFault → Type 0)
    → ((sites : List X) (row : List (List ℕ)) (n : ℕ) → AreLawful sites
    → IsDecided States AreLawful IsFirstFault sites row n) → (before rest : Rows) (sites : List X)
    → AllZip States before sites → AreLawful sites
    → IsRead States AreLawful IsFirstFault (before ++ rest)
read_on States AreLawful IsFirstFault next before [] sites stated lawful =
    inl (sites, subst (λ r. AllZip States r sites) (sym (append-nil before)) stated, lawful)
read_on States AreLawful IsFirstFault next before (row ∷ rest) sites stated lawful =
    elim (next sites row (length before + 2) lawful) [
      | inl more ↦
          subst (IsRead States AreLawful IsFirstFault) (append_assoc before (row ∷ []) rest)
          (read_on States AreLawful IsFirstFault next (before ++ row ∷ []) rest
          (sites ++ more.0 ∷ [])
          (all_zipped_more States before sites row more.0 stated more.1) more.2)
      | inr wrong ↦
          inr (wrong.0, (before, row, rest, sites, refl, stated, lawful, wrong.1))
    ]

-- what records say
abbrev IsTold : {X : Type 0} → List (List ℕ) → (List (List ℕ) → X → Type 0)
    → (List X → Type 0) → (List X → List (List ℕ) → ℕ → SiteFault → Type 0) → Rows → Type 0
IsTold {X} header States AreLawful IsFirstFault records =
    ((sites : List X) × StateSites header States AreLawful records sites)
    ⊎ ((f : SiteFault) × HasFault header States AreLawful IsFirstFault records f)

records_tell : {X : Type 0} (header : List (List ℕ)) (States : List (List ℕ) → X → Type 0)
    (AreLawful : List X → Type 0) (IsFirstFault : List X → List (List ℕ) → ℕ → SiteFault → Type 0)
    → AreLawful [] → ((sites : List X) (row : List (List ℕ)) (n : ℕ) → AreLawful sites
    → IsDecided States AreLawful IsFirstFault sites row n) → (records : Rows)
    → IsTold header States AreLawful IsFirstFault records
records_tell header States AreLawful IsFirstFault empty next [] =
    inr (faults.Header, inl (refl, λ rows is. let no : [] ≡ header ∷ rows = is in cc no))
records_tell header States AreLawful IsFirstFault empty next (first ∷ rows) =
    elim (known_rows first header) [
      | inl same ↦
          let is : first ∷ rows ≡ header ∷ rows = ap (λ r. r ∷ rows) same in
          elim (read_on States AreLawful IsFirstFault next [] rows [] tt empty) [
            | inl told ↦ inl (told.0, (rows, is, told.1, told.2))
            | inr wrong ↦ inr (wrong.0, inr (rows, is, wrong.1))
          ]
      | inr other ↦
          inr (
            faults.Header,
            inl (
              refl,
              λ below is. let both : first ∷ rows ≡ header ∷ below = is in
                  let same : first ≡ header = cc both in other same,
            ),
          )
    ]

-- a file of such a format has an answer
pub some_answer : {X : Type 0} (header : List (List ℕ)) (States : List (List ℕ) → X → Type 0)
    (AreLawful : List X → Type 0) (IsFirstFault : List X → List (List ℕ) → ℕ → SiteFault → Type 0)
    → AreLawful [] → ((sites : List X) (row : List (List ℕ)) (n : ℕ) → AreLawful sites
    → IsDecided States AreLawful IsFirstFault sites row n) → (bytes : List ℕ)
    → ((sites : List X) × AreSitesOf header States AreLawful bytes sites)
    ⊎ ((f : SiteFault) × IsFaultOf header States AreLawful IsFirstFault bytes f)
some_answer header States AreLawful IsFirstFault empty next bytes =
    let file = some_records bytes in
    elim (records_tell header States AreLawful IsFirstFault empty next file.0) [
      | inl told ↦ inl (told.0, (file.0, file.1, told.1))
      | inr wrong ↦ inr (wrong.0, (file.0, file.1, wrong.1))
    ]
