-- The level of a run as a function.
use Rattle.std.proofs.Common.{add-one, inl, inr, ◌≡◌, ℕ, zero, suc, ◌+◌, ◌<◌, Bool, true, false}
use Rattle.std.proofs.Common.{leb, leb-true, leb-false, le-leb, List, [], ◌∷◌, length, get_or}
use Rattle.std.proofs.Common.{Option, Some, None, refl, sym, ◌∙◌, ap, subst, arith}
use Rattle.std.proofs.lemmas.Bool.{cases_order}
use Rattle.std.proofs.lemmas.Bool.Decides.{nat_tests}
use Rattle.std.specs.Prelude.{if◌then◌else◌, MatchOption}
use Rattle.std.specs.Option.{option_map, option_or}
use Rattle.plum_base.specs.Levels.{StartsAtZero}
use Rattle.plum_level.specs.Level.{ENOUGH, last_minute, reaching, IsLevel, IsLevelOfRun}
use Rattle.plum_level.specs.Level.{greatest_reached, level_of}
use Rattle.plum_level.proofs.Minutes.{length-last_minute}
use Rattle.plum_level.proofs.Renewing.{count_by-zero}

-- Not enough reach any of the thresholds.
abbrev NoneReached : List ℕ → List ℕ → Type 0
NoneReached ts xs = (j : ℕ) → j < length ts → reaching (get_or ts j 0) xs < ENOUGH

-- This is a level, or there is none and not enough reach any threshold.
abbrev IsLevelOrNone : List ℕ → List ℕ → Option ℕ → Type 0
IsLevelOrNone ts xs level = MatchOption level (NoneReached ts xs) (IsLevel ts xs)

module _ (xs ts : List ℕ) (t : ℕ) where
  -- Behind one threshold more, no later one than the level is reached.
  few_behind : (i : ℕ) → IsLevel ts xs i → (j : ℕ) → suc i < j → j < length (t ∷ ts)
      → reaching (get_or (t ∷ ts) j 0) xs < ENOUGH
  few_behind i level zero above below = absurd (omega arith)
  few_behind i level (suc j) above below = level.greatest j (omega arith) (omega arith)

  -- A level stays one, one further on, behind one threshold more.
  IsLevel-behind : (i : ℕ) → IsLevel ts xs i → IsLevel (t ∷ ts) xs (i + 1)
  IsLevel-behind i level =
      let further : IsLevel (t ∷ ts) xs (suc i) = record {
        listed = omega arith;
        reached = level.reached;
        greatest = few_behind i level;
      } in
      subst (IsLevel (t ∷ ts) xs) (sym (add-one i)) further

  -- Where no later threshold is reached, none but the first is.
  few_but_first : NoneReached ts xs → (j : ℕ) → 0 < j → j < length (t ∷ ts)
      → reaching (get_or (t ∷ ts) j 0) xs < ENOUGH
  few_but_first none zero above below = absurd (omega arith)
  few_but_first none (suc j) above below = none j (omega arith)

  -- Where the first is not reached either, none is.
  few_with_first : NoneReached ts xs → reaching t xs < ENOUGH → NoneReached (t ∷ ts) xs
  few_with_first none first zero below = first
  few_with_first none first (suc j) below = none j (omega arith)

  -- Where no later threshold is reached, the first one decides.
  first_decides : NoneReached ts xs → (b : Bool) → leb ENOUGH (reaching t xs) ≡ b
      → IsLevelOrNone (t ∷ ts) xs (if b then Some 0 else None)
  first_decides none true many = record {
    listed = omega arith;
    reached = leb-true ENOUGH (reaching t xs) many;
    greatest = few_but_first none;
  }
  first_decides none false few = few_with_first none (leb-false ENOUGH (reaching t xs) few)

  -- What the later thresholds give decides otherwise.
  greatest_reached-cons : (later : Option ℕ) → IsLevelOrNone ts xs later
      → let first : Option ℕ = if leb ENOUGH (reaching t xs) then Some 0 else None in
      IsLevelOrNone (t ∷ ts) xs (option_or (option_map (λ i. i + 1) later) first)
  greatest_reached-cons None none = first_decides none (leb ENOUGH (reaching t xs)) refl
  greatest_reached-cons (Some i) level = IsLevel-behind i level

-- The function gives a level, and none only where no threshold is reached.
greatest_reached-level : (xs ts : List ℕ) → IsLevelOrNone ts xs (greatest_reached ts xs)
greatest_reached-level xs [] = λ j below. absurd (omega arith)
greatest_reached-level xs (t ∷ ts) =
    greatest_reached-cons xs ts t (greatest_reached ts xs) (greatest_reached-level xs ts)

module _ (xs ts : List ℕ) where
  -- Two levels of one list are one.
  one_level : (i j : ℕ) → IsLevel ts xs i → IsLevel ts xs j → i ≡ j
  one_level i j a b = elim (cases_order i j) [
    | inl same ↦ same
    | inr other ↦ elim other [
      | inl below ↦ absurd (omega (arith, a.greatest j below b.listed))
      | inr above ↦ absurd (omega (arith, b.greatest i above a.listed))
    ]
  ]

  -- Where there is a level, what is one or none is that one.
  only_level : (o : Option ℕ) (i : ℕ) → IsLevelOrNone ts xs o
      → IsLevel ts xs i → o ≡ Some i
  only_level None i none level = absurd (omega (arith, level.reached, none i level.listed))
  only_level (Some j) i found level = ap Some (one_level j i found level)

  -- A level is what the function gives.
  greatest_reached-is : (i : ℕ) → IsLevel ts xs i → greatest_reached ts xs ≡ Some i
  greatest_reached-is i level =
      only_level (greatest_reached ts xs) i (greatest_reached-level xs ts) level

-- The level of a run is what the function gives.
pub level_of-only : (ts xs : List ℕ) (level : Option ℕ) → IsLevelOfRun ts xs level
    → level ≡ level_of ts xs
level_of-only ts xs None short =
    let few : leb ENOUGH (length xs) ≡ false = grind (arith, nat_tests) in
    rw few
level_of-only ts xs (Some i) (long, level) =
    rw (le-leb ENOUGH (length xs) long, greatest_reached-is xs ts i level)

module _ (ts xs : List ℕ) (starts : StartsAtZero ts) where
  -- Zero is reached by all.
  short_from_none_reached : NoneReached ts xs → length xs < ENOUGH
  short_from_none_reached none =
      let first : reaching (get_or ts 0 0) xs < ENOUGH = none 0 starts.0 in
      let all : reaching (get_or ts 0 0) xs ≡ length (last_minute xs) =
      ap (λ t. reaching t xs) starts.1 ∙ count_by-zero (last_minute xs) in
      omega (arith, length-last_minute xs)

  -- the level, by whether the run is long enough
  IsLevelOfRun-from : (b : Bool) (level : Option ℕ) → leb ENOUGH (length xs) ≡ b
      → IsLevelOrNone ts xs level → IsLevelOfRun ts xs (if b then level else None)
  IsLevelOfRun-from false level few is = leb-false ENOUGH (length xs) few
  IsLevelOfRun-from true None many none = short_from_none_reached none
  IsLevelOfRun-from true (Some i) many level = (leb-true ENOUGH (length xs) many, level)

  -- What the function gives is the level, at thresholds that start at 0.
  pub level_of-is : IsLevelOfRun ts xs (level_of ts xs)
  level_of-is = IsLevelOfRun-from (leb ENOUGH (length xs)) _ refl (greatest_reached-level xs ts)
