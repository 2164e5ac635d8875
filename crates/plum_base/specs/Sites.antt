-- What a list of stations and a list of targets must keep (the project's own limits).
use Rattle.std.specs.Prelude.{◌≡◌, ◌≢◌, ℕ, ℤ, not, ◌<◌, ◌≤◌, pos, ◌≤ℤ◌, List, [], ◌∷◌, ◌++◌, length}
use Rattle.std.specs.Prelude.{map, filter, slice_get, slice_index_or, nat_eq, All, AllPairs, Any}
use Rattle.std.specs.Prelude.{Option, Some, None, IsSomeAnd}
use Rattle.std.specs.Cmp.Lexicographic.{pointwise}
use Rattle.std.specs.Str.{bytes_eq}
use Rattle.plum_base.specs.declared.numbers.AreaNo.{AreaNo}
use Rattle.plum_base.specs.declared.numbers.Point.{Point}
use Rattle.plum_base.specs.declared.numbers.StationNo.{StationNo}
use Rattle.plum_base.specs.declared.numbers.TargetNo.{TargetNo}
use Rattle.plum_base.specs.declared.sites.StationSite.{StationSite}
use Rattle.plum_base.specs.declared.sites.TargetSite.{TargetSite}
use Rattle.plum_base.specs.Levels.{IsFactor}

-- how many stations there are at most
abbrev pub MOST_STATIONS : ℕ
MOST_STATIONS = 4096

-- how many targets
abbrev pub MOST_TARGETS : ℕ
MOST_TARGETS = 8192

-- how many areas
abbrev pub MOST_AREAS : ℕ
MOST_AREAS = 64

-- how many codes there are: sixteen bits
abbrev pub CODES : ℕ
CODES = 65536

-- the greatest coordinate of the grid, in metres
abbrev pub GRID_END : ℤ
GRID_END = pos 4194303

-- both lists, in file order
pub record SitesView : Type 0 where
  pub stations : List StationSite
  pub targets : List TargetSite

-- on the grid: from 0 to its end, in metres
abbrev pub IsCoordinate : ℤ → Type 0
IsCoordinate c = (pos 0 ≤ℤ c) × (c ≤ℤ GRID_END)

-- on the grid each way
abbrev pub IsPlace : Point → Type 0
IsPlace p = IsCoordinate p.x × IsCoordinate p.y

-- each member once, where it stands first
abbrev pub first_appearances : List (List ℕ) → List (List ℕ)
first_appearances [] = []
first_appearances (x ∷ xs) = x ∷ filter (λ y. not (pointwise nat_eq x y)) (first_appearances xs)

-- the areas of the targets, in the order of first appearance
abbrev pub areas_of : List TargetSite → List (List ℕ)
areas_of targets = first_appearances (map (λ t. t.area) targets)

-- A target of an area that is there adds none.
abbrev pub KnownAreasStay : Type 0
KnownAreasStay = (targets : List TargetSite) (t : TargetSite)
    → Any (λ a. a ≡ t.area) (areas_of targets) → areas_of (targets ++ t ∷ []) ≡ areas_of targets

-- A target of another area adds it at the end.
abbrev pub NewAreasComeLast : Type 0
NewAreasComeLast = (targets : List TargetSite) (t : TargetSite)
    → ¬ Any (λ a. a ≡ t.area) (areas_of targets)
    → areas_of (targets ++ t ∷ []) ≡ areas_of targets ++ t.area ∷ []

-- the targets of an area, in file order
abbrev pub targets_of : List ℕ → List TargetSite → List TargetSite
targets_of area targets = filter (λ t. bytes_eq t.area area) targets

-- These are the numbers of those targets, one for one.
abbrev pub AreNumbersOf : List TargetSite → List TargetNo → List TargetSite → Type 0
AreNumbersOf targets numbers those = map (λ n. slice_get targets n.0) numbers ≡ map Some those

-- No two stations have one code.
abbrev pub AreCodesDistinct : List StationSite → Type 0
AreCodesDistinct stations = AllPairs (λ a b. a.code ≢ b.code) stations

-- No two targets have one name.
abbrev pub AreNamesDistinct : List TargetSite → Type 0
AreNamesDistinct targets = AllPairs (λ a b. a.name ≢ b.name) targets

-- Stations: not too many, each on the grid and with a factor in its range, no two of one code.
pub record AreStations (stations : List StationSite) : Type 0 where
  pub few : length stations ≤ MOST_STATIONS
  pub in_range : All (λ s. IsPlace s.at × IsFactor s.factor) stations
  pub codes : AreCodesDistinct stations

-- Targets: not too many, of not too many areas, each on the grid and with a factor in its range, no
-- two of one name.
pub record AreTargets (targets : List TargetSite) : Type 0 where
  pub few : length targets ≤ MOST_TARGETS
  pub in_range : All (λ t. IsPlace t.at × IsFactor t.factor) targets
  pub names : AreNamesDistinct targets
  pub few_areas : length (areas_of targets) ≤ MOST_AREAS

-- Both lists are lawful.
abbrev pub AreLawful : List StationSite → List TargetSite → Type 0
AreLawful stations targets = AreStations stations × AreTargets targets

-- the n-th station, from 0, has this code
abbrev pub HasCode : List StationSite → ℕ → ℕ → Type 0
HasCode stations n code = IsSomeAnd (slice_get stations n) (λ s. s.code ≡ code)

-- Some station has this code.
abbrev pub IsCodeTaken : List StationSite → ℕ → Type 0
IsCodeTaken stations code = Any (λ s. s.code ≡ code) stations

-- Some target has this name.
abbrev pub IsNameTaken : List TargetSite → List ℕ → Type 0
IsNameTaken targets name = Any (λ t. t.name ≡ name) targets

-- No station has this code.
abbrev pub HasNoCode : List StationSite → ℕ → Type 0
HasNoCode stations code = All (λ s. s.code ≢ code) stations

-- what is found at a code: the number of its station, or none where no station has it
abbrev pub IsFoundAt : List StationSite → ℕ → Option StationNo → Type 0
IsFoundAt stations code None = HasNoCode stations code
IsFoundAt stations code (Some n) = HasCode stations n.0 code

-- the table has at each code what is found there
abbrev pub AreByCode : List StationSite → List (Option StationNo) → Type 0
AreByCode stations table =
    (length table ≡ CODES)
    × ((code : ℕ) → code < CODES → IsFoundAt stations code (slice_index_or table code None))

-- the numbers, target by target, are those of the targets' areas
abbrev pub AreNumbered : List TargetSite → List AreaNo → Type 0
AreNumbered targets numbers =
    map (λ n. slice_get (areas_of targets) n.0) numbers ≡ map (λ t. Some t.area) targets
