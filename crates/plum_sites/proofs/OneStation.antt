-- A station file has one answer.
use Rattle.std.proofs.Common.{◌≡◌, ℕ, ℤ, ◌-◌, pos, List, [], ◌∷◌, ◌++◌, length, All, Any, ap}
use Rattle.std.proofs.Common.{◌∙◌, subst, arith, length-append, refl, sym, inl, inr}
use Rattle.std.proofs.lemmas.Bool.{cases_eq, cases_lt}
use Rattle.std.proofs.lemmas.List.Elements.{All-nil}
use Rattle.plum_base.specs.declared.numbers.Point.{Point}
use Rattle.plum_base.specs.declared.numbers.Tenths.{Tenths}
use Rattle.plum_base.specs.declared.sites.StationSite.{StationSite}
use Rattle.plum_base.specs.Levels.{IsFactor}
use Rattle.plum_base.specs.Sites.{IsPlace, CODES, AreStations}
use Rattle.plum_base.proofs.Members.{each_one}
use Rattle.plum_sites.specs.declared.fault.SiteFault.{SiteFault}
use Rattle.plum_sites.specs.declared.fault.SiteFault.TheVariants as faults
use Rattle.plum_sites.specs.Fields.{Spells, IsNumber}
use Rattle.std.specs.List.{AllZip}
use Rattle.plum_sites.specs.Stations.{station_header, AreStationNumbers, StatesStation}
use Rattle.plum_sites.specs.Stations.{IsFirstStationFault}
use Rattle.plum_sites.specs.Laws.{StationsAreTold}
use Rattle.plum_sites.proofs.Known.{Known, known_three, known_within, known_place, known_factor}
use Rattle.plum_sites.proofs.Known.{known_all, known_any, known_number, natural_of, spelled}
use Rattle.plum_sites.proofs.Known.{four_numbers}
use Rattle.plum_sites.proofs.MoreStations.{stations_more}
use Rattle.plum_sites.proofs.SameNumbers.{same_point, same_tenths}
use Rattle.plum_sites.proofs.SomeAnswer.{IsDecided}
use Rattle.std.proofs.lemmas.Slice.Zip.{AllZip-long}
use Rattle.plum_sites.proofs.OneReading.{spells_one, each_number}
use Rattle.plum_sites.proofs.OneAnswer.{Breaks, breaks_one, fresh_before, IsFormat, one_answer}

abbrev station : ℕ → Point → Tenths → StationSite
station code at factor = record { code = code; at = at; factor = factor }

same_station : (s t : StationSite) → s.code ≡ t.code → s.at ≡ t.at → s.factor ≡ t.factor → s ≡ t
same_station s t code at factor =
    ap (λ v. station v s.at s.factor) code ∙ ap (λ v. station t.code v s.factor) at
    ∙ ap (λ v. station t.code t.at v) factor

one_station : (row : List (List ℕ)) (s t : StationSite) → StatesStation row s
    → StatesStation row t → s ≡ t
one_station row s t a b =
    let all : pos s.code ∷ s.at.x ∷ s.at.y ∷ s.factor.0 ∷ []
    ≡ pos t.code ∷ t.at.x ∷ t.at.y ∷ t.factor.0 ∷ [] =
    each_one Spells spells_one row _ _ a.numbers b.numbers in
    let code : s.code ≡ t.code = cc all in
    let x : s.at.x ≡ t.at.x = cc all in
    let y : s.at.y ≡ t.at.y = cc all in
    let factor : s.factor.0 ≡ t.factor.0 = cc all in
    same_station s t code (same_point s.at t.at x y) (same_tenths s.factor t.factor factor)

-- the numbers of a row that states a station are in their ranges
in_ranges : (row : List (List ℕ)) (code x y factor : ℤ) (s : StationSite)
    → AllZip Spells row (code ∷ x ∷ y ∷ factor ∷ []) → StatesStation row s
    → AreStationNumbers code x y factor
in_ranges row code x y factor s spelled is =
    let all : pos s.code ∷ s.at.x ∷ s.at.y ∷ s.factor.0 ∷ [] ≡ code ∷ x ∷ y ∷ factor ∷ [] =
    each_one Spells spells_one row _ _ is.numbers spelled in
    let ec : pos s.code ≡ code = cc all in
    let ex : s.at.x ≡ x = cc all in
    let ey : s.at.y ≡ y = cc all in
    let ef : s.factor.0 ≡ factor = cc all in
    subst (λ t. AreStationNumbers t x y factor) ec
    (subst (λ t. AreStationNumbers (pos s.code) t y factor) ex
    (subst (λ t. AreStationNumbers (pos s.code) s.at.x t factor) ey
    (subst (λ t. AreStationNumbers (pos s.code) s.at.x s.at.y t) ef is.ranges)))

abbrev Columns : List (List ℕ) → Type 0
Columns row = length row ≡ 4

abbrev Numbers : List (List ℕ) → Type 0
Numbers row = (length row ≡ 4) × All IsNumber row

abbrev Stated : List (List ℕ) → Type 0
Stated row = (s : StationSite) × StatesStation row s

abbrev Fresh : List StationSite → List (List ℕ) → Type 0
Fresh before row =
    (s : StationSite) × StatesStation row s × ¬ (Any (λ b. b.code ≡ s.code) before)

numbers_of : (row : List (List ℕ)) (code x y factor : ℤ)
    → AllZip Spells row (code ∷ x ∷ y ∷ factor ∷ []) → Numbers row
numbers_of row code x y factor spelled = (
  sym (AllZip-long Spells row (code ∷ x ∷ y ∷ factor ∷ []) spelled),
  each_number row (code ∷ x ∷ y ∷ factor ∷ []) spelled,
)

numbers_stated : (row : List (List ℕ)) → Stated row → Numbers row
numbers_stated row is =
    numbers_of row (pos is.0.code) is.0.at.x is.0.at.y is.0.factor.0 is.1.numbers

breaks : (before : List StationSite) (row : List (List ℕ)) (n : ℕ) (f : SiteFault)
    → IsFirstStationFault before row n f
    → Breaks (Columns row) (Numbers row) (Stated row) (Fresh before row) n f
breaks before row n faults.Header a = a
breaks before row n (faults.Columns k) a = a
breaks before row n (faults.Number k) a = (a.0, a.1, λ numbers. a.2 numbers.1)
breaks before row n (faults.Range k) a = (
  a.0,
  numbers_of row a.1 a.2 a.3 a.4 a.5,
  λ is. a.6 (in_ranges row a.1 a.2 a.3 a.4 is.0 a.5 is.1),
)
breaks before row n (faults.Twice k) a = (
  a.0,
  (a.1, a.2),
  λ fresh. fresh.2 (subst (λ s. Any (λ b. b.code ≡ s.code) before)
      (one_station row a.1 fresh.0 a.2 fresh.1) a.3),
)
breaks before row n (faults.TooMany k) a = (a.0, (a.1, a.2, a.3))

none_goes_on : (sites : List StationSite) (s : StationSite) (more : List StationSite)
    (row : List (List ℕ)) (n : ℕ) (f : SiteFault) → StatesStation row s
    → AreStations (sites ++ s ∷ more) → IsFirstStationFault sites row n f → ⊥
none_goes_on sites s more row n faults.Header is lawful at = at
none_goes_on sites s more row n (faults.Columns k) is lawful at =
    at.1 (numbers_stated row (s, is)).0
none_goes_on sites s more row n (faults.Number k) is lawful at =
    at.2 (numbers_stated row (s, is)).1
none_goes_on sites s more row n (faults.Range k) is lawful at =
    at.6 (in_ranges row at.1 at.2 at.3 at.4 s at.5 is)
none_goes_on sites s more row n (faults.Twice k) is lawful at =
    fresh_before (λ b. b.code) sites s more lawful.codes
    (subst (λ t. Any (λ b. b.code ≡ t.code) sites) (one_station row at.1 s at.2 is) at.3)
none_goes_on sites s more row n (faults.TooMany k) is lawful at =
    let whole = length-append sites (s ∷ more) in
    let few = lawful.few in
    let full = at.4 in absurd (omega arith)

known_ranges : (code x y factor : ℤ) → Known (AreStationNumbers code x y factor)
known_ranges code x y factor =
    known_three _ _ _ (known_within (pos 0) (pos (CODES - 1)) code) (known_place x y)
    (known_factor factor)

abbrev Decided : List StationSite → List (List ℕ) → ℕ → Type 0
Decided before row n = IsDecided StatesStation AreStations IsFirstStationFault before row n

-- a row that states a station
by_station : (before : List StationSite) (row : List (List ℕ)) (n : ℕ) (s : StationSite)
    → AreStations before → StatesStation row s → Decided before row n
by_station before row n s lawful is =
    elim (known_any (λ b. b.code ≡ s.code) (λ b. cases_eq b.code s.code) before) [
      | inl twice ↦ inr (faults.Twice n, (refl, s, is, twice))
      | inr fresh ↦ elim (cases_lt (length before) 4096) [
        | inl room ↦
            inl (s, is, stations_more before s lawful fresh room is.ranges.1 is.ranges.2)
        | inr full ↦ inr (faults.TooMany n, (refl, s, is, fresh, full))
      ]
    ]

-- a row of four numbers
by_numbers : (before : List StationSite) (row : List (List ℕ)) (n : ℕ) (code x y factor : ℤ)
    → AreStations before → AllZip Spells row (code ∷ x ∷ y ∷ factor ∷ []) → Decided before row n
by_numbers before row n code x y factor lawful spells =
    elim (known_ranges code x y factor) [
      | inl within ↦
          let natural = natural_of code within.0.0 in
          by_station before row n
          (station natural.0 (record { x = x; y = y }) (record { 0 = factor })) lawful
          (record {
            numbers = subst (λ (c : ℤ). AllZip Spells row (c ∷ x ∷ y ∷ factor ∷ []))
                (sym natural.1) spells;
            ranges = subst (λ (c : ℤ). AreStationNumbers c x y factor) (sym natural.1) within;
          })
      | inr other ↦ inr (faults.Range n, (refl, code, x, y, factor, spells, other))
    ]

-- a row of four fields that are numbers
by_row : (before : List StationSite) (row : List (List ℕ)) (n : ℕ) (ns : List ℤ)
    → AreStations before → length row ≡ 4 → AllZip Spells row ns → Decided before row n
by_row before row n ns lawful four spells =
    let same = AllZip-long Spells row ns spells in
    let is = four_numbers row ns (omega (arith, four, same)) spells in
    by_numbers before row n is.0 is.1 is.2 is.3 lawful is.4

decided : (before : List StationSite) (row : List (List ℕ)) (n : ℕ) → AreStations before
    → Decided before row n
decided before row n lawful =
    elim (cases_eq (length row) 4) [
      | inl four ↦ elim (known_all IsNumber known_number row) [
        | inl all ↦ let ns = spelled row all in by_row before row n ns.0 lawful four ns.1
        | inr other ↦ inr (faults.Number n, (refl, four, other))
      ]
      | inr other ↦ inr (faults.Columns n, (refl, other))
    ]

no_stations : AreStations []
no_stations = record {
  few = omega arith;
  in_range = All-nil (λ s. IsPlace s.at × IsFactor s.factor);
  codes = λ k j d l m. absurd (omega arith);
}

station_format : IsFormat StatesStation AreStations IsFirstStationFault
station_format = record {
  site = one_station;
  fault = λ sites row n f g a b. breaks_one (Columns row) (Numbers row) (Stated row)
      (Fresh sites row) (λ numbers. numbers.0) (numbers_stated row) (λ fresh. (fresh.0, fresh.1)) n
      f g (breaks sites row n f a) (breaks sites row n g b);
  none = none_goes_on;
  empty = no_stations;
  next = decided;
}

pub stations_are_told : StationsAreTold
stations_are_told bytes =
    one_answer station_header StatesStation AreStations IsFirstStationFault station_format bytes
