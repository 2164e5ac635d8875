-- A file of sites has one answer, where a row states one site and has one fault, where no row of a
-- lawful list has a fault, and where a row behind a lawful list goes on with it or has one.
use Rattle.std.proofs.Common.{◌≡◌, ◌≢◌, ◌⊎◌, ◌<◌, ◌+◌, ℕ, List, [], ◌∷◌, ◌++◌, length, Any}
use Rattle.std.proofs.Common.{AllPairs, refl, sym, ap, ◌∙◌, subst, inl, inr, arith}
use Rattle.std.proofs.Common.{length-append}
use Rattle.std.proofs.Math.Seq.{get_or-append_seam}
use Rattle.std.proofs.lemmas.List.{get_or_append_left}
use Rattle.plum_sites.specs.declared.fault.SiteFault.{SiteFault}
use Rattle.plum_sites.specs.declared.fault.SiteFault.TheVariants as faults
use Rattle.std.specs.List.{AllZip}
use Rattle.plum_sites.specs.Files.{StateSites, HasRowFault, HasFault, AreSitesOf, IsFaultOf}
use Rattle.plum_sites.specs.Laws.{HasOneAnswer}
use Rattle.plum_base.proofs.Members.{each_one}
use Rattle.plum_sites.proofs.OneReading.{one_file}
use Rattle.plum_sites.proofs.SomeAnswer.{IsDecided, some_answer}

-- the fault of a row that keeps each rule above it, and not its own
abbrev pub Breaks : Type 0 → Type 0 → Type 0 → Type 0 → ℕ → SiteFault → Type 0
Breaks Columns Numbers States Fresh n faults.Header = ⊥
Breaks Columns Numbers States Fresh n (faults.Columns k) = (k ≡ n) × ¬ Columns
Breaks Columns Numbers States Fresh n (faults.Number k) = (k ≡ n) × Columns × ¬ Numbers
Breaks Columns Numbers States Fresh n (faults.Range k) = (k ≡ n) × Numbers × ¬ States
Breaks Columns Numbers States Fresh n (faults.Twice k) = (k ≡ n) × States × ¬ Fresh
Breaks Columns Numbers States Fresh n (faults.TooMany k) = (k ≡ n) × Fresh

pub breaks_one : (K1 K2 K3 K4 : Type 0) → (K2 → K1) → (K3 → K2) → (K4 → K3) → (n : ℕ)
    → (f g : SiteFault) → Breaks K1 K2 K3 K4 n f → Breaks K1 K2 K3 K4 n g → f ≡ g
breaks_one K1 K2 K3 K4 d1 d2 d3 n faults.Header g a b = absurd a
breaks_one K1 K2 K3 K4 d1 d2 d3 n (faults.Columns k) faults.Header a b = absurd b
breaks_one K1 K2 K3 K4 d1 d2 d3 n (faults.Columns k) (faults.Columns l) a b =
    ap (λ t. faults.Columns t) (a.0 ∙ sym b.0)
breaks_one K1 K2 K3 K4 d1 d2 d3 n (faults.Columns k) (faults.Number l) a b = absurd (a.1 b.1)
breaks_one K1 K2 K3 K4 d1 d2 d3 n (faults.Columns k) (faults.Range l) a b = absurd (a.1 (d1 b.1))
breaks_one K1 K2 K3 K4 d1 d2 d3 n (faults.Columns k) (faults.Twice l) a b =
    absurd (a.1 (d1 (d2 b.1)))
breaks_one K1 K2 K3 K4 d1 d2 d3 n (faults.Columns k) (faults.TooMany l) a b =
    absurd (a.1 (d1 (d2 (d3 b.1))))
breaks_one K1 K2 K3 K4 d1 d2 d3 n (faults.Number k) faults.Header a b = absurd b
breaks_one K1 K2 K3 K4 d1 d2 d3 n (faults.Number k) (faults.Columns l) a b = absurd (b.1 a.1)
breaks_one K1 K2 K3 K4 d1 d2 d3 n (faults.Number k) (faults.Number l) a b =
    ap (λ t. faults.Number t) (a.0 ∙ sym b.0)
breaks_one K1 K2 K3 K4 d1 d2 d3 n (faults.Number k) (faults.Range l) a b = absurd (a.2 b.1)
breaks_one K1 K2 K3 K4 d1 d2 d3 n (faults.Number k) (faults.Twice l) a b = absurd (a.2 (d2 b.1))
breaks_one K1 K2 K3 K4 d1 d2 d3 n (faults.Number k) (faults.TooMany l) a b =
    absurd (a.2 (d2 (d3 b.1)))
breaks_one K1 K2 K3 K4 d1 d2 d3 n (faults.Range k) faults.Header a b = absurd b
breaks_one K1 K2 K3 K4 d1 d2 d3 n (faults.Range k) (faults.Columns l) a b = absurd (b.1 (d1 a.1))
breaks_one K1 K2 K3 K4 d1 d2 d3 n (faults.Range k) (faults.Number l) a b = absurd (b.2 a.1)
breaks_one K1 K2 K3 K4 d1 d2 d3 n (faults.Range k) (faults.Range l) a b =
    ap (λ t. faults.Range t) (a.0 ∙ sym b.0)
breaks_one K1 K2 K3 K4 d1 d2 d3 n (faults.Range k) (faults.Twice l) a b = absurd (a.2 b.1)
breaks_one K1 K2 K3 K4 d1 d2 d3 n (faults.Range k) (faults.TooMany l) a b = absurd (a.2 (d3 b.1))
breaks_one K1 K2 K3 K4 d1 d2 d3 n (faults.Twice k) faults.Header a b = absurd b
breaks_one K1 K2 K3 K4 d1 d2 d3 n (faults.Twice k) (faults.Columns l) a b =
    absurd (b.1 (d1 (d2 a.1)))
breaks_one K1 K2 K3 K4 d1 d2 d3 n (faults.Twice k) (faults.Number l) a b = absurd (b.2 (d2 a.1))
breaks_one K1 K2 K3 K4 d1 d2 d3 n (faults.Twice k) (faults.Range l) a b = absurd (b.2 a.1)
breaks_one K1 K2 K3 K4 d1 d2 d3 n (faults.Twice k) (faults.Twice l) a b =
    ap (λ t. faults.Twice t) (a.0 ∙ sym b.0)
breaks_one K1 K2 K3 K4 d1 d2 d3 n (faults.Twice k) (faults.TooMany l) a b = absurd (a.2 b.1)
breaks_one K1 K2 K3 K4 d1 d2 d3 n (faults.TooMany k) faults.Header a b = absurd b
breaks_one K1 K2 K3 K4 d1 d2 d3 n (faults.TooMany k) (faults.Columns l) a b =
    absurd (b.1 (d1 (d2 (d3 a.1))))
breaks_one K1 K2 K3 K4 d1 d2 d3 n (faults.TooMany k) (faults.Number l) a b =
    absurd (b.2 (d2 (d3 a.1)))
breaks_one K1 K2 K3 K4 d1 d2 d3 n (faults.TooMany k) (faults.Range l) a b = absurd (b.2 (d3 a.1))
breaks_one K1 K2 K3 K4 d1 d2 d3 n (faults.TooMany k) (faults.Twice l) a b = absurd (b.2 a.1)
breaks_one K1 K2 K3 K4 d1 d2 d3 n (faults.TooMany k) (faults.TooMany l) a b =
    ap (λ t. faults.TooMany t) (a.0 ∙ sym b.0)

-- what stands before an element of a list of distinct values has other values
pub fresh_before : {X V : Type 0} (v : X → V) (xs : List X) (x : X) (more : List X)
    → AllPairs (λ a b. v a ≢ v b) (xs ++ x ∷ more) → ¬ Any (λ b. v b ≡ v x) xs
fresh_before v xs x more distinct w =
    let inside : w.0 < length xs = w.2 in
    let here = get_or_append_left xs (x ∷ more) w.1 w.0 inside ∙ w.3 in
    let there = get_or-append_seam xs x more w.1 in
    let whole = length-append xs (x ∷ more) in
    distinct w.0 (length xs) w.1 inside (omega arith) (ap v here ∙ w.4 ∙ sym (ap v there))

-- the site of a row, and those of the rows before
each_split : {X Y : Type 0} (R : X → Y → Type 0) (before : List X) (x : X) (after : List X)
    (ys : List Y) → AllZip R (before ++ x ∷ after) ys
    → (us : List Y) × (v : Y) × (ws : List Y) × (ys ≡ us ++ v ∷ ws) × AllZip R before us × R x v
each_split R [] x after [] each = absurd each
each_split R [] x after (y ∷ ys) each = ([], y, ys, refl, tt, each.0)
each_split R (b ∷ before) x after [] each = absurd each
each_split R (b ∷ before) x after (y ∷ ys) each =
    let (us, v, ws, split, stated, is) = each_split R before x after ys each.1 in
    (y ∷ us, v, ws, ap (λ t. y ∷ t) split, (each.0, stated), is)

-- of two places in a list, one comes first, or they are one
abbrev Places : {X : Type 0} → List X → List X → X → X → Type 0
Places {X} before before2 x y =
    ((before ≡ before2) × (x ≡ y))
    ⊎ (((mid : List X) × (before2 ≡ before ++ x ∷ mid))
    ⊎ ((mid : List X) × (before ≡ before2 ++ y ∷ mid)))

further : {X : Type 0} (a b : X) (before before2 : List X) (x y : X) → a ≡ b
    → Places before before2 x y → Places (a ∷ before) (b ∷ before2) x y
further a b before before2 x y same (inl at) =
    let rest = at.0 in
    let whole : a ∷ before ≡ b ∷ before2 = cc in
    inl (whole, at.1)
further a b before before2 x y same (inr (inl at)) =
    inr (inl (at.0, ap (λ t. b ∷ t) at.1 ∙ ap (λ t. t ∷ before ++ x ∷ at.0) (sym same)))
further a b before before2 x y same (inr (inr at)) =
    inr (inr (at.0, ap (λ t. a ∷ t) at.1 ∙ ap (λ t. t ∷ before2 ++ y ∷ at.0) same))

places : {X : Type 0} (before before2 : List X) (x y : X) (after after2 : List X)
    → before ++ x ∷ after ≡ before2 ++ y ∷ after2 → Places before before2 x y
places [] [] x y after after2 is =
    let both : x ∷ after ≡ y ∷ after2 = is in
    let same : x ≡ y = cc both in inl (refl, same)
places [] (b ∷ before2) x y after after2 is =
    let both : x ∷ after ≡ b ∷ (before2 ++ y ∷ after2) = is in
    let same : b ≡ x = cc both in inr (inl (before2, ap (λ t. t ∷ before2) same))
places (a ∷ before) [] x y after after2 is =
    let both : a ∷ (before ++ x ∷ after) ≡ y ∷ after2 = is in
    let same : a ≡ y = cc both in inr (inr (before, ap (λ t. t ∷ before) same))
places (a ∷ before) (b ∷ before2) x y after after2 is =
    let both : a ∷ (before ++ x ∷ after) ≡ b ∷ (before2 ++ y ∷ after2) = is in
    let same : a ≡ b = cc both in
    let rest : before ++ x ∷ after ≡ before2 ++ y ∷ after2 = cc both in
    further a b before before2 x y same (places before before2 x y after after2 rest)

-- What a format must keep: a row states one site and has one fault, none where its site goes on in
-- a lawful list, and one where it does not.
pub record IsFormat {X : Type 0} (States : List (List ℕ) → X → Type 0) (AreLawful : List X → Type 0)
    (IsFirstFault : List X → List (List ℕ) → ℕ → SiteFault → Type 0) : Type 0 where
  pub site : (row : List (List ℕ)) (s t : X) → States row s → States row t → s ≡ t
  pub fault : (sites : List X) (row : List (List ℕ)) (n : ℕ) (f g : SiteFault)
      → IsFirstFault sites row n f → IsFirstFault sites row n g → f ≡ g
  pub none : (sites : List X) (s : X) (more : List X) (row : List (List ℕ)) (n : ℕ)
      (f : SiteFault) → States row s → AreLawful (sites ++ s ∷ more)
      → IsFirstFault sites row n f → ⊥
  pub empty : AreLawful []
  pub next : (sites : List X) (row : List (List ℕ)) (n : ℕ) → AreLawful sites
      → IsDecided States AreLawful IsFirstFault sites row n

-- no row of those that state a lawful list is at fault
no_earlier : {X : Type 0} (States : List (List ℕ) → X → Type 0) (AreLawful : List X → Type 0)
    (IsFirstFault : List X → List (List ℕ) → ℕ → SiteFault → Type 0)
    → IsFormat States AreLawful IsFirstFault
    → (before : List (List (List ℕ))) (row : List (List ℕ)) (mid : List (List (List ℕ)))
    → (sites whole : List X) (n : ℕ) (f : SiteFault) → AllZip States before sites
    → AllZip States (before ++ row ∷ mid) whole → AreLawful whole → IsFirstFault sites row n f → ⊥
no_earlier States AreLawful IsFirstFault format before row mid sites whole n f stated all
    lawful at =
    let (us, v, ws, split, first, is) = each_split States before row mid whole all in
    let same = each_one States format.site before us sites first stated in
    format.none sites v ws row n f is
    (subst AreLawful (split ∙ ap (λ t. t ++ v ∷ ws) same) lawful) at

one_sites : {X : Type 0} (header : List (List ℕ)) (States : List (List ℕ) → X → Type 0)
    (AreLawful : List X → Type 0) (IsFirstFault : List X → List (List ℕ) → ℕ → SiteFault → Type 0)
    → IsFormat States AreLawful IsFirstFault → (records : List (List (List ℕ))) (xs ys : List X)
    → StateSites header States AreLawful records xs → StateSites header States AreLawful records ys
    → xs ≡ ys
one_sites header States AreLawful IsFirstFault format records xs ys a b =
    let both : header ∷ a.0 ≡ header ∷ b.0 = sym a.1 ∙ b.1 in
    let rows : a.0 ≡ b.0 = cc both in
    each_one States format.site a.0 xs ys a.2 (subst (λ r. AllZip States r ys) (sym rows) b.2)

no_fault : {X : Type 0} (header : List (List ℕ)) (States : List (List ℕ) → X → Type 0)
    (AreLawful : List X → Type 0) (IsFirstFault : List X → List (List ℕ) → ℕ → SiteFault → Type 0)
    → IsFormat States AreLawful IsFirstFault → (records : List (List (List ℕ))) (xs : List X)
    (f : SiteFault) → StateSites header States AreLawful records xs
    → HasFault header States AreLawful IsFirstFault records f → ⊥
no_fault header States AreLawful IsFirstFault format records xs f a (inl none) = none.1 a.0 a.1
no_fault header States AreLawful IsFirstFault format records xs f a (inr below) =
    let (rows, is, at) = below in
    let (before, row, after, sites, split, stated, lawful, wrong) = at in
    let both : header ∷ a.0 ≡ header ∷ rows = sym a.1 ∙ is in
    let same : a.0 ≡ rows = cc both in
    no_earlier States AreLawful IsFirstFault format before row after sites xs (length before + 2) f
    stated (subst (λ r. AllZip States r xs) (same ∙ split) a.2) a.3 wrong

one_row_fault : {X : Type 0} (States : List (List ℕ) → X → Type 0) (AreLawful : List X → Type 0)
    (IsFirstFault : List X → List (List ℕ) → ℕ → SiteFault → Type 0)
    → IsFormat States AreLawful IsFirstFault → (rows : List (List (List ℕ))) (f g : SiteFault)
    → HasRowFault States AreLawful IsFirstFault rows f
    → HasRowFault States AreLawful IsFirstFault rows g → f ≡ g
one_row_fault {X} States AreLawful IsFirstFault format rows f g a b =
    let (before, row, after, sites, split, stated, lawful, wrong) = a in
    let (before2, row2, after2, sites2, split2, stated2, lawful2, wrong2) = b in
    elim (places before before2 row row2 after after2 (sym split ∙ split2)) [
      | inl at ↦
          let same : sites ≡ sites2 = each_one States format.site before sites sites2 stated
          (subst (λ r. AllZip States r sites2) (sym at.0) stated2) in
          let n : length before2 + 2 ≡ length before + 2 = ap (λ r. length r + 2) (sym at.0) in
          let there = subst (λ (t : List X). IsFirstFault t row2 (length before2 + 2) g) (sym same)
          wrong2 in
          let here = subst (λ (r : List (List ℕ)). IsFirstFault sites r (length before2 + 2) g)
          (sym at.1) there in
          format.fault sites row (length before + 2) f g wrong
          (subst (λ (k : ℕ). IsFirstFault sites row k g) n here)
      | inr one ↦ elim one [
        | inl at ↦
            absurd (no_earlier States AreLawful IsFirstFault format before row at.0 sites sites2
            (length before + 2) f stated (subst (λ r. AllZip States r sites2) at.1 stated2) lawful2
            wrong)
        | inr at ↦
            absurd (no_earlier States AreLawful IsFirstFault format before2 row2 at.0 sites2 sites
            (length before2 + 2) g stated2 (subst (λ r. AllZip States r sites) at.1 stated) lawful
            wrong2)
      ]
    ]

one_fault : {X : Type 0} (header : List (List ℕ)) (States : List (List ℕ) → X → Type 0)
    (AreLawful : List X → Type 0) (IsFirstFault : List X → List (List ℕ) → ℕ → SiteFault → Type 0)
    → IsFormat States AreLawful IsFirstFault → (records : List (List (List ℕ))) (f g : SiteFault)
    → HasFault header States AreLawful IsFirstFault records f
    → HasFault header States AreLawful IsFirstFault records g → f ≡ g
one_fault header States AreLawful IsFirstFault format records f g (inl a) (inl b) = a.0 ∙ sym b.0
one_fault header States AreLawful IsFirstFault format records f g (inl a) (inr b) =
    absurd (a.1 b.0 b.1)
one_fault header States AreLawful IsFirstFault format records f g (inr a) (inl b) =
    absurd (b.1 a.0 a.1)
one_fault header States AreLawful IsFirstFault format records f g (inr a) (inr b) =
    let both : header ∷ a.0 ≡ header ∷ b.0 = sym a.1 ∙ b.1 in
    let rows : a.0 ≡ b.0 = cc both in
    one_row_fault States AreLawful IsFirstFault format a.0 f g a.2
    (subst (λ r. HasRowFault States AreLawful IsFirstFault r g) (sym rows) b.2)

-- a file of such a format has one answer
pub one_answer : {X : Type 0} (header : List (List ℕ)) (States : List (List ℕ) → X → Type 0)
    (AreLawful : List X → Type 0) (IsFirstFault : List X → List (List ℕ) → ℕ → SiteFault → Type 0)
    → IsFormat States AreLawful IsFirstFault → (bytes : List ℕ)
    → HasOneAnswer (AreSitesOf header States AreLawful bytes)
    (IsFaultOf header States AreLawful IsFirstFault bytes)
one_answer header States AreLawful IsFirstFault format bytes = record {
  some = some_answer header States AreLawful IsFirstFault format.empty format.next bytes;
  sites = λ xs ys a b. one_sites header States AreLawful IsFirstFault format a.0 xs ys a.2
      (subst (λ r. StateSites header States AreLawful r ys) (one_file bytes b.0 a.0 b.1 a.1) b.2);
  fault = λ f g a b. one_fault header States AreLawful IsFirstFault format a.0 f g a.2
      (subst (λ r. HasFault header States AreLawful IsFirstFault r g)
      (one_file bytes b.0 a.0 b.1 a.1) b.2);
  either = λ xs f a b. no_fault header States AreLawful IsFirstFault format a.0 xs f a.2
      (subst (λ r. HasFault header States AreLawful IsFirstFault r f)
      (one_file bytes b.0 a.0 b.1 a.1) b.2);
}
