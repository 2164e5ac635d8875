-- A target file has one answer.
use Rattle.std.proofs.Common.{◌≡◌, ◌≤◌, ◌<◌, ◌⊎◌, ℕ, ℤ, not, List, [], ◌∷◌, ◌++◌, length, map}
use Rattle.std.proofs.Common.{take, drop, filter, nat_eq, All, Any, sym, ap, ◌∙◌, subst, inl, inr}
use Rattle.std.proofs.Common.{refl, arith, append_assoc, length-append, length-drop}
use Rattle.std.specs.Cmp.Lexicographic.{pointwise}
use Rattle.std.proofs.lemmas.List.{length-take, map-append}
use Rattle.std.proofs.lemmas.Bool.{cases_eq, cases_lt}
use Rattle.std.proofs.lemmas.List.Elements.{filter-append, All-nil}
use Rattle.plum_base.specs.declared.numbers.Point.{Point}
use Rattle.plum_base.specs.declared.numbers.Tenths.{Tenths}
use Rattle.plum_base.specs.declared.sites.TargetSite.{TargetSite}
use Rattle.plum_base.specs.Levels.{IsFactor}
use Rattle.plum_base.specs.Sites.{IsPlace, AreTargets, areas_of, first_appearances}
use Rattle.plum_base.proofs.Members.{each_one}
use Rattle.plum_sites.specs.declared.fault.SiteFault.{SiteFault}
use Rattle.plum_sites.specs.declared.fault.SiteFault.TheVariants as faults
use Rattle.plum_sites.specs.Fields.{Spells, IsNumber}
use Rattle.std.specs.List.{AllZip}
use Rattle.plum_sites.specs.Targets.{target_header, AreTargetFields, StatesTarget}
use Rattle.plum_sites.specs.Targets.{IsFirstTargetFault}
use Rattle.plum_sites.specs.Laws.{TargetsAreTold}
use Rattle.plum_sites.proofs.Known.{Known, known_four, known_name, known_place, known_factor}
use Rattle.plum_sites.proofs.Known.{known_all, known_any, known_bytes, known_number, spelled}
use Rattle.plum_sites.proofs.Known.{three_numbers}
use Rattle.plum_sites.proofs.MoreTargets.{targets_more}
use Rattle.plum_sites.proofs.SameNumbers.{same_point, same_tenths}
use Rattle.plum_sites.proofs.SomeAnswer.{IsDecided}
use Rattle.std.proofs.lemmas.Slice.Zip.{AllZip-long}
use Rattle.plum_sites.proofs.OneReading.{spells_one, each_number}
use Rattle.plum_sites.proofs.OneAnswer.{Breaks, breaks_one, fresh_before, IsFormat, one_answer}

abbrev target : List ℕ → List ℕ → Point → Tenths → TargetSite
target name area at factor = record { name = name; area = area; at = at; factor = factor }

same_target : (s t : TargetSite) → s.name ≡ t.name → s.area ≡ t.area → s.at ≡ t.at
    → s.factor ≡ t.factor → s ≡ t
same_target s t name area at factor =
    ap (λ v. target v s.area s.at s.factor) name ∙ ap (λ v. target t.name v s.at s.factor) area
    ∙ ap (λ v. target t.name t.area v s.factor) at
    ∙ ap (λ v. target t.name t.area t.at v) factor

one_target : (row : List (List ℕ)) (s t : TargetSite) → StatesTarget row s → StatesTarget row t
    → s ≡ t
one_target row s t a b =
    let names : s.name ∷ s.area ∷ [] ≡ t.name ∷ t.area ∷ [] = sym a.names ∙ b.names in
    let all : s.at.x ∷ s.at.y ∷ s.factor.0 ∷ [] ≡ t.at.x ∷ t.at.y ∷ t.factor.0 ∷ [] =
    each_one Spells spells_one (drop 2 row) _ _ a.numbers b.numbers in
    let name : s.name ≡ t.name = cc names in
    let area : s.area ≡ t.area = cc names in
    let x : s.at.x ≡ t.at.x = cc all in
    let y : s.at.y ≡ t.at.y = cc all in
    let factor : s.factor.0 ≡ t.factor.0 = cc all in
    same_target s t name area (same_point s.at t.at x y)
    (same_tenths s.factor t.factor factor)

-- the fields of a row that states a target are in their ranges
in_ranges : (row : List (List ℕ)) (name area : List ℕ) (x y factor : ℤ) (t : TargetSite)
    → take 2 row ≡ name ∷ area ∷ [] → AllZip Spells (drop 2 row) (x ∷ y ∷ factor ∷ [])
    → StatesTarget row t → AreTargetFields name area x y factor
in_ranges row name area x y factor t named spelled is =
    let names : t.name ∷ t.area ∷ [] ≡ name ∷ area ∷ [] = sym is.names ∙ named in
    let all : t.at.x ∷ t.at.y ∷ t.factor.0 ∷ [] ≡ x ∷ y ∷ factor ∷ [] =
    each_one Spells spells_one (drop 2 row) _ _ is.numbers spelled in
    let en : t.name ≡ name = cc names in
    let ea : t.area ≡ area = cc names in
    let ex : t.at.x ≡ x = cc all in
    let ey : t.at.y ≡ y = cc all in
    let ef : t.factor.0 ≡ factor = cc all in
    subst (λ v. AreTargetFields v area x y factor) en
    (subst (λ v. AreTargetFields t.name v x y factor) ea
    (subst (λ v. AreTargetFields t.name t.area v y factor) ex
    (subst (λ v. AreTargetFields t.name t.area t.at.x v factor) ey
    (subst (λ v. AreTargetFields t.name t.area t.at.x t.at.y v) ef is.ranges))))

abbrev Columns : List (List ℕ) → Type 0
Columns row = length row ≡ 5

abbrev Numbers : List (List ℕ) → Type 0
Numbers row = (length row ≡ 5) × All IsNumber (drop 2 row)

abbrev Stated : List (List ℕ) → Type 0
Stated row = (t : TargetSite) × StatesTarget row t

abbrev Fresh : List TargetSite → List (List ℕ) → Type 0
Fresh before row =
    (t : TargetSite) × StatesTarget row t × ¬ (Any (λ b. b.name ≡ t.name) before)

numbers_of : (row : List (List ℕ)) (name area : List ℕ) (x y factor : ℤ)
    → take 2 row ≡ name ∷ area ∷ [] → AllZip Spells (drop 2 row) (x ∷ y ∷ factor ∷ [])
    → Numbers row
numbers_of row name area x y factor named spelled =
    let two = ap length named in
    let three = AllZip-long Spells (drop 2 row) (x ∷ y ∷ factor ∷ []) spelled in
    let five : length row ≡ 5 = omega (arith, two, three, length-take 2 row, length-drop 2 row) in
    (five, each_number (drop 2 row) (x ∷ y ∷ factor ∷ []) spelled)

numbers_stated : (row : List (List ℕ)) → Stated row → Numbers row
numbers_stated row is =
    numbers_of row is.0.name is.0.area is.0.at.x is.0.at.y is.0.factor.0 is.1.names is.1.numbers

breaks : (before : List TargetSite) (row : List (List ℕ)) (n : ℕ) (f : SiteFault)
    → IsFirstTargetFault before row n f
    → Breaks (Columns row) (Numbers row) (Stated row) (Fresh before row) n f
breaks before row n faults.Header a = a
breaks before row n (faults.Columns k) a = a
breaks before row n (faults.Number k) a = (a.0, a.1, λ numbers. a.2 numbers.1)
breaks before row n (faults.Range k) a = (
  a.0,
  numbers_of row a.1 a.2 a.3 a.4 a.5 a.6 a.7,
  λ is. a.8 (in_ranges row a.1 a.2 a.3 a.4 a.5 is.0 a.6 a.7 is.1),
)
breaks before row n (faults.Twice k) a = (
  a.0,
  (a.1, a.2),
  λ fresh. fresh.2 (subst (λ t. Any (λ b. b.name ≡ t.name) before)
      (one_target row a.1 fresh.0 a.2 fresh.1) a.3),
)
breaks before row n (faults.TooMany k) a = (a.0, (a.1, a.2, a.3))

-- what appears in a list appears first in a longer one
appears_first : (xs ys : List (List ℕ)) → (zs : List (List ℕ))
    × (first_appearances (xs ++ ys) ≡ first_appearances xs ++ zs)
appears_first [] ys = (first_appearances ys, refl)
appears_first (x ∷ xs) ys =
    let rest = appears_first xs ys in (
      filter (λ y. not (pointwise nat_eq x y)) rest.0,
      ap (λ l. x ∷ filter (λ y. not (pointwise nat_eq x y)) l) rest.1
          ∙ ap (λ l. x ∷ l) (filter-append (λ y. not (pointwise nat_eq x y)) (first_appearances xs)
          rest.0),
    )

no_fewer_areas : (xs ys : List TargetSite)
    → length (areas_of xs) ≤ length (areas_of (xs ++ ys))
no_fewer_areas xs ys =
    let both = appears_first (map (λ t. t.area) xs) (map (λ t. t.area) ys) in
    let whole = ap first_appearances (map-append (λ t. t.area) xs ys) ∙ both.1 in
    let size = ap length whole ∙ length-append (areas_of xs) both.0 in omega (arith, size)

too_many : (sites : List TargetSite) (s t : TargetSite) (more : List TargetSite) → s ≡ t
    → AreTargets (sites ++ s ∷ more)
    → (8192 ≤ length sites) ⊎ (64 < length (areas_of (sites ++ t ∷ []))) → ⊥
too_many sites s t more same lawful (inl full) =
    let whole = length-append sites (s ∷ more) in
    let few = lawful.few in absurd (omega arith)
too_many sites s t more same lawful (inr full) =
    let here : 64 < length (areas_of (sites ++ s ∷ [])) =
    subst (λ u. 64 < length (areas_of (sites ++ u ∷ []))) (sym same) full in
    let fewer = no_fewer_areas (sites ++ s ∷ []) more in
    let joined = ap (λ l. length (areas_of l)) (append_assoc sites (s ∷ []) more) in
    let few = lawful.few_areas in absurd (omega (arith, here, fewer, joined, few))

none_goes_on : (sites : List TargetSite) (s : TargetSite) (more : List TargetSite)
    (row : List (List ℕ)) (n : ℕ) (f : SiteFault) → StatesTarget row s
    → AreTargets (sites ++ s ∷ more) → IsFirstTargetFault sites row n f → ⊥
none_goes_on sites s more row n faults.Header is lawful at = at
none_goes_on sites s more row n (faults.Columns k) is lawful at =
    at.1 (numbers_stated row (s, is)).0
none_goes_on sites s more row n (faults.Number k) is lawful at =
    at.2 (numbers_stated row (s, is)).1
none_goes_on sites s more row n (faults.Range k) is lawful at =
    at.8 (in_ranges row at.1 at.2 at.3 at.4 at.5 s at.6 at.7 is)
none_goes_on sites s more row n (faults.Twice k) is lawful at =
    fresh_before (λ b. b.name) sites s more lawful.names
    (subst (λ t. Any (λ b. b.name ≡ t.name) sites) (one_target row at.1 s at.2 is) at.3)
none_goes_on sites s more row n (faults.TooMany k) is lawful at =
    too_many sites s at.1 more (one_target row s at.1 is at.2) lawful at.4

known_fields : (name area : List ℕ) (x y factor : ℤ)
    → Known (AreTargetFields name area x y factor)
known_fields name area x y factor =
    known_four _ _ _ _ (known_name name) (known_name area) (known_place x y)
    (known_factor factor)

abbrev Decided : List TargetSite → List (List ℕ) → ℕ → Type 0
Decided before row n = IsDecided StatesTarget AreTargets IsFirstTargetFault before row n

-- a row that states a target of a name of its own
by_fresh : (before : List TargetSite) (row : List (List ℕ)) (n : ℕ) (t : TargetSite)
    → AreTargets before → StatesTarget row t → ¬ Any (λ b. b.name ≡ t.name) before
    → Decided before row n
by_fresh before row n t lawful is fresh =
    elim (cases_lt (length before) 8192) [
      | inl room ↦ elim (cases_lt 64 (length (areas_of (before ++ t ∷ [])))) [
        | inl full ↦ inr (faults.TooMany n, (refl, t, is, fresh, inr full))
        | inr few ↦
            inl (t, is, targets_more before t lawful fresh room few is.ranges.2 is.ranges.3)
      ]
      | inr full ↦ inr (faults.TooMany n, (refl, t, is, fresh, inl full))
    ]

-- a row that states a target
by_target : (before : List TargetSite) (row : List (List ℕ)) (n : ℕ) (t : TargetSite)
    → AreTargets before → StatesTarget row t → Decided before row n
by_target before row n t lawful is =
    elim (known_any (λ b. b.name ≡ t.name) (λ b. known_bytes b.name t.name) before) [
      | inl twice ↦ inr (faults.Twice n, (refl, t, is, twice))
      | inr fresh ↦ by_fresh before row n t lawful is fresh
    ]

-- a row of two texts and three numbers
by_fields : (before : List TargetSite) (row : List (List ℕ)) (n : ℕ) (name area : List ℕ)
    (x y factor : ℤ) → AreTargets before → take 2 row ≡ name ∷ area ∷ []
    → AllZip Spells (drop 2 row) (x ∷ y ∷ factor ∷ []) → Decided before row n
by_fields before row n name area x y factor lawful named spells =
    elim (known_fields name area x y factor) [
      | inl within ↦
          by_target before row n
          (target name area (record { x = x; y = y }) (record { 0 = factor })) lawful
          (record { names = named; numbers = spells; ranges = within })
      | inr other ↦
          inr (faults.Range n, (refl, name, area, x, y, factor, named, spells, other))
    ]

first_two : (row : List (List ℕ)) → length row ≡ 5
    → (name area : List ℕ) × (take 2 row ≡ name ∷ area ∷ [])
first_two [] l = absurd (omega arith)
first_two (name ∷ []) l = absurd (omega arith)
first_two (name ∷ area ∷ rest) l = (name, area, refl)

-- a row of five fields, the last three of them numbers
by_row : (before : List TargetSite) (row : List (List ℕ)) (n : ℕ) (ns : List ℤ)
    → AreTargets before → length row ≡ 5 → AllZip Spells (drop 2 row) ns → Decided before row n
by_row before row n ns lawful five spells =
    let names = first_two row five in
    let same = AllZip-long Spells (drop 2 row) ns spells in
    let is = three_numbers (drop 2 row) ns (omega (arith, five, same, length-drop 2 row)) spells in
    by_fields before row n names.0 names.1 is.0 is.1 is.2 lawful names.2 is.3

decided : (before : List TargetSite) (row : List (List ℕ)) (n : ℕ) → AreTargets before
    → Decided before row n
decided before row n lawful =
    elim (cases_eq (length row) 5) [
      | inl five ↦ elim (known_all IsNumber known_number (drop 2 row)) [
        | inl all ↦
            let ns = spelled (drop 2 row) all in by_row before row n ns.0 lawful five ns.1
        | inr other ↦ inr (faults.Number n, (refl, five, other))
      ]
      | inr other ↦ inr (faults.Columns n, (refl, other))
    ]

no_targets : AreTargets []
no_targets = record {
  few = omega arith;
  in_range = All-nil (λ t. IsPlace t.at × IsFactor t.factor);
  names = λ k j d l m. absurd (omega arith);
  few_areas = omega arith;
}

target_format : IsFormat StatesTarget AreTargets IsFirstTargetFault
target_format = record {
  site = one_target;
  fault = λ sites row n f g a b. breaks_one (Columns row) (Numbers row) (Stated row)
      (Fresh sites row) (λ numbers. numbers.0) (numbers_stated row) (λ fresh. (fresh.0, fresh.1)) n
      f g (breaks sites row n f a) (breaks sites row n g b);
  none = none_goes_on;
  empty = no_targets;
  next = decided;
}

pub targets_are_told : TargetsAreTold
targets_are_told bytes =
    one_answer target_header StatesTarget AreTargets IsFirstTargetFault target_format bytes
