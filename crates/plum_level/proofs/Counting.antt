-- How many samples have a level or a higher one.
use Rattle.std.proofs.Common.{◌≡◌, ℕ, ◌+◌, ◌-◌, ◌<◌, ◌≤◌, List, length, get_or, drop, set, sum, sym}
use Rattle.std.proofs.Common.{◌∙◌, ap, arith, length-drop, leb, leb-true, leb-false, cond, inl, inr}
use Rattle.std.proofs.Common.{Bool, true, false, refl}
use Rattle.std.proofs.lemmas.Bool.{cases_Bool}
use Rattle.std.proofs.lemmas.List.{drop-set-lt, drop-set-add, drop-drop, get_or-drop}
use Rattle.std.proofs.lemmas.List.Sums.{sum_by-set, sum_by-drop_more, sum_by-take-drop}
use Rattle.std.specs.Int.{from_bool}
use Rattle.plum_level.specs.Tallies.{from_level, one_sample_more, one_sample_less}

-- the level itself, and those above it
pub from_level-step : (counts : List ℕ) (k : ℕ) → k < length counts
    → from_level counts k ≡ get_or counts k 0 + from_level counts (k + 1)
from_level-step counts k below = sum_by-drop_more (λ n. n) counts k 0 below

-- A higher level has no more.
pub from_level-falls : (counts : List ℕ) (k j : ℕ) → k ≤ j
    → from_level counts j ≤ from_level counts k
from_level-falls counts k j le =
    let higher : k + (j - k) ≡ j = omega arith in
    let same : sum (drop (j - k) (drop k counts)) ≡ from_level counts j =
    ap sum (drop-drop (j - k) k counts ∙ ap (λ n. drop n counts) higher) in
    omega (arith, same, sum_by-take-drop (λ n. n) (drop k counts) (j - k))

-- Where the number of one level changes, so does that from each level up to it.
pub from_level-set : (counts : List ℕ) (k j n : ℕ) → k ≤ j → j < length counts
    → from_level (set counts j n) k + get_or counts j 0 ≡ from_level counts k + n
from_level-set counts k j n le below =
    let higher : k + (j - k) ≡ j = omega arith in
    let same : from_level (set counts j n) k ≡ sum (set (drop k counts) (j - k) n) =
    ap (λ i. from_level (set counts i n) k) (sym higher)
    ∙ ap sum (drop-set-add k counts (j - k) n) in
    let at : get_or (drop k counts) (j - k) 0 ≡ get_or counts j 0 =
    get_or-drop k counts (j - k) 0 ∙ ap (λ i. get_or counts i 0) higher in
    let within : j - k < length (drop k counts) = omega (arith, length-drop k counts) in
    omega (arith, same, at, sum_by-set (λ n. n) (drop k counts) (j - k) n 0 within)

-- Those from a higher level do not.
pub from_level-set_below : (counts : List ℕ) (k j n : ℕ) → j < k
    → from_level (set counts j n) k ≡ from_level counts k
from_level-set_below counts k j n below = ap sum (drop-set-lt k counts j n below)

-- one sample more of a level
pub from_level-one_sample_more : (counts : List ℕ) (k l : ℕ) → l < length counts
    → from_level (one_sample_more counts l) k ≡ from_level counts k + cond (leb k l) 1 0
from_level-one_sample_more counts k l below = elim (cases_Bool (leb k l)) [
  | inl up_to ↦ rw up_to (omega (
    arith,
    from_level-set counts k l (get_or counts l 0 + 1)
        (leb-true k l up_to) below,
  ))
  | inr past ↦ rw past (omega (
    arith,
    from_level-set_below counts k l
        (get_or counts l 0 + 1) (leb-false k l past),
  ))
]

-- one sample less
pub from_level-one_sample_less : (counts : List ℕ) (k l : ℕ) → l < length counts
    → 0 < get_or counts l 0
    → from_level (one_sample_less counts l) k + cond (leb k l) 1 0 ≡ from_level counts k
from_level-one_sample_less counts k l below there = elim (cases_Bool (leb k l)) [
  | inl up_to ↦ rw up_to (omega (
    arith,
    from_level-set counts k l (get_or counts l 0 - 1)
        (leb-true k l up_to) below,
  ))
  | inr past ↦ rw past (omega (
    arith,
    from_level-set_below counts k l
        (get_or counts l 0 - 1) (leb-false k l past),
  ))
]

-- A comparison as a number: one where it holds, and none else.
pub from_bool-cond : (b : Bool) → from_bool b ≡ cond b 1 0
from_bool-cond true = refl
from_bool-cond false = refl

pub from_bool-le : (b : Bool) → from_bool b ≤ 1
from_bool-le true = omega arith
from_bool-le false = omega arith
