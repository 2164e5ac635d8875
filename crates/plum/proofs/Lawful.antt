-- The sites of a drill are lawful.
use Rattle.std.proofs.Common.{◌≡◌, ◌≢◌, ℕ, zero, suc, ◌+◌, ◌*◌, ◌/◌, ◌%◌, ◌<◌, ◌≤◌, List, [], ◌∷◌}
use Rattle.std.proofs.Common.{length, map, filter, get_or, sym, subst, arith, rules}
use Rattle.std.proofs.Common.{Bool, true, false, not, cond, nat_eq, pos}
use Rattle.std.proofs.Math.Dec.{le→leb}
use Rattle.std.specs.Cmp.Lexicographic.{pointwise}
use Rattle.std.proofs.lemmas.List.{length-map}
use Rattle.std.proofs.lemmas.List.FromFn.{get_or-map-range_with_len, length-map-range_with_len}
use Rattle.std.specs.List.{range_with_len, All, AllPairs}
use Rattle.plum_base.specs.Levels.{IsFactor}
use Rattle.plum_base.specs.Sites.{AreCodesDistinct, AreStations, AreTargets, IsCoordinate, IsPlace}
use Rattle.plum_base.specs.Sites.{first_appearances}
use Rattle.plum.specs.DrillFiles.{MOST_DRILL_STATIONS}
use Rattle.plum.specs.DrillSites.{DRILL_TARGETS, drill_station, drill_stations, drill_target}
use Rattle.plum.specs.DrillSites.{drill_targets, tenths_less}

-- what holds of each number holds of what f makes of it
all_in_range : {X : Type 0} (P : X → Type 0) (f : ℕ → X) (n : ℕ) → ((i : ℕ) → i < n → P (f i))
    → All P (map f (range_with_len 0 n))
all_in_range P f n each = λ k d within.
    let long = length-map-range_with_len f 0 n in
    subst P (sym (get_or-map-range_with_len f 0 n k k d (omega arith) (omega arith)))
    (each k (omega arith))

pairs_in_range : {X : Type 0} (R : X → X → Type 0) (f : ℕ → X) (n : ℕ)
    → ((i j : ℕ) → i < j → j < n → R (f i) (f j)) → AllPairs R (map f (range_with_len 0 n))
pairs_in_range R f n each = λ i j d before within.
    let long = length-map-range_with_len f 0 n in
    let first = get_or-map-range_with_len f 0 n i i d (omega arith) (omega arith) in
    let second = get_or-map-range_with_len f 0 n j j d (omega arith) (omega arith) in
    subst (λ y. R (get_or (map f (range_with_len 0 n)) i d) y) (sym second)
    (subst (λ x. R x (f j)) (sym first) (each i j before (omega arith)))

-- a coordinate on the grid
coordinate : (n : ℕ) → n ≤ 76000 → IsCoordinate (pos n)
coordinate n few = omega (arith, le→leb)

-- a small factor
factor : (n less : ℕ) → n < 5 → less ≤ 2 → IsFactor (tenths_less n less)
factor n zero few small = search rules
factor n (suc zero) few small = search rules
factor n (suc (suc zero)) few small = search rules
factor n (suc (suc (suc less))) few small = absurd (omega arith)

-- a station is on the grid
station_in_range : (i : ℕ) → i < MOST_DRILL_STATIONS
    → IsPlace (drill_station i).at × IsFactor (drill_station i).factor
station_in_range i few = (
  (coordinate (4000 * (i % 20)) (omega arith), coordinate (4000 * (i / 20)) (omega arith)),
  factor (i % 5) 2 (omega arith) (omega arith),
)

target_in_range : (j : ℕ) → j < DRILL_TARGETS
    → IsPlace (drill_target j).at × IsFactor (drill_target j).factor
target_in_range j few = (
  (coordinate (10000 * (j % 8)) (omega arith), coordinate (10000 * (j / 8)) (omega arith)),
  factor (j % 3) 1 (omega arith) (omega arith),
)

-- no two have one code, or one name
codes_differ : (i j : ℕ) → i < j → (drill_station i).code ≢ (drill_station j).code
codes_differ i j before same = omega arith

names_differ : (i j : ℕ) → i < j → (drill_target i).name ≢ (drill_target j).name
names_differ i j before same =
    let tens : 48 + i / 10 ≡ 48 + j / 10 = cc in
    let ones : 48 + i % 10 ≡ 48 + j % 10 = cc in
    omega arith

length-filter : {X : Type 0} (p : X → Bool) (xs : List X) → length (filter p xs) ≤ length xs
length-filter p [] = omega arith
length-filter p (x ∷ xs) = go (p x) (length-filter p xs)
  where
    go : (b : Bool) → length (filter p xs) ≤ length xs
        → length (cond b (x ∷ filter p xs) (filter p xs)) ≤ length (x ∷ xs)
    go true less = omega arith
    go false less = omega arith

-- There are no more areas than targets.
few_appear : (names : List (List ℕ)) → length (first_appearances names) ≤ length names
few_appear [] = omega arith
few_appear (x ∷ xs) =
    omega (
      arith,
      few_appear xs,
      length-filter (λ y. not (pointwise nat_eq x y))
          (first_appearances xs),
    )

-- no two stations have one code, however many there are
pub drill_codes_differ : (stations : ℕ) → AreCodesDistinct (drill_stations stations)
drill_codes_differ stations = pairs_in_range (λ a b. a.code ≢ b.code) drill_station stations
    (λ i j before within. codes_differ i j before)

pub stations_are_lawful : (stations : ℕ) → stations ≤ MOST_DRILL_STATIONS
    → AreStations (drill_stations stations)
stations_are_lawful stations few = record {
  few = omega (arith, length-map-range_with_len drill_station 0 stations);
  in_range = all_in_range (λ s. IsPlace s.at × IsFactor s.factor) drill_station stations
      (λ i within. station_in_range i (omega arith));
  codes = drill_codes_differ stations;
}

pub targets_are_lawful : AreTargets drill_targets
targets_are_lawful =
    let long = length-map-range_with_len drill_target 0 DRILL_TARGETS in
    record {
      few = omega (arith, long);
      in_range = all_in_range (λ t. IsPlace t.at × IsFactor t.factor) drill_target DRILL_TARGETS
          target_in_range;
      names = pairs_in_range (λ a b. a.name ≢ b.name) drill_target DRILL_TARGETS
          (λ i j before within. names_differ i j before);
      few_areas = omega (
        arith,
        long,
        few_appear (map (λ t. t.area) drill_targets),
        length-map drill_targets (λ t. t.area),
      );
    }
