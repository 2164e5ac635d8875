-- The greatest of a reading's answers.
use Rattle.std.proofs.Common.{◌≡◌, ◌≤ℤ◌, ℤ, List, [], ◌∷◌, ◌⊎◌, inl, inr, Option}
use Rattle.std.proofs.Common.{Some, None, fold, refl, sym, ◌∙◌, ap, subst, arith}
use Rattle.std.proofs.lemmas.Bool.{cases_Bool}
use Rattle.std.proofs.lemmas.Int.{ints}
use Rattle.std.proofs.lemmas.List.Elements.{All-nil, All-cons, All-contains}
use Rattle.std.specs.Ordering.{int_cmp, max_by_ordering}
use Rattle.std.specs.Prelude.{int_lt}
use Rattle.std.specs.List.{Contains}
use Rattle.plum_base.specs.declared.numbers.Tenths.{Tenths}
use Rattle.plum_alert.specs.Readings.{IsGreatest, without_none, greater_of, greatest_of}
use Rattle.plum_alert.proofs.Lists.{Contains-here, Contains-later, Contains-cases}

-- what the order of intensities says is the greater
pub greater_of-by_order : (t u : Tenths)
    → max_by_ordering (int_cmp t.0 u.0) t u ≡ greater_of t u
greater_of-by_order t u = grind (arith, ints)

-- The greater of two is one of them, and neither is above it.
record IsGreater (t u g : Tenths) : Type 0 where
  pub one : (g ≡ t) ⊎ (g ≡ u)
  pub first : t.0 ≤ℤ g.0
  pub second : u.0 ≤ℤ g.0

greater_of-is : (t u : Tenths) → IsGreater t u (greater_of t u)
greater_of-is t u = elim (cases_Bool (int_lt u.0 t.0)) [
  | inl below ↦ rw below (record {
    one = inl refl;
    first = omega (arith, ints);
    second = grind (arith, ints);
  })
  | inr not_below ↦ rw not_below (record {
    one = inr refl;
    first = grind (arith, ints);
    second = omega (arith, ints);
  })
]

-- This is the greatest of an intensity and of these answers.
record IsGreatestWith (t : Tenths) (answers : List (Option Tenths)) (g : Tenths) : Type 0 where
  pub one : (g ≡ t) ⊎ Contains answers (Some g)
  pub first : t.0 ≤ℤ g.0
  pub rest : (u : Tenths) → Contains answers (Some u) → u.0 ≤ℤ g.0

-- the same, one answer more in front that is none
IsGreatestWith-none : (t : Tenths) (answers : List (Option Tenths)) (g : Tenths)
    → IsGreatestWith t answers g → IsGreatestWith t (None ∷ answers) g
IsGreatestWith-none t answers g is = record {
  one = elim is.one [
    | inl own ↦ inl own
    | inr later ↦ inr (Contains-later None answers (Some g) later)
  ];
  first = is.first;
  rest = λ u has. elim (Contains-cases None answers (Some u) has) [
    | inl none ↦ absurd (cc)
    | inr later ↦ is.rest u later
  ];
}

-- and one more that is an intensity
IsGreatestWith-some : (t u : Tenths) (answers : List (Option Tenths)) (g : Tenths)
    → IsGreatestWith (greater_of t u) answers g → IsGreatestWith t (Some u ∷ answers) g
IsGreatestWith-some t u answers g is =
    let two = greater_of-is t u in
    record {
      one = elim is.one [
        | inl own ↦ elim two.one [
          | inl first ↦ inl (own ∙ first)
          | inr second ↦
              inr (subst (λ v. Contains (Some u ∷ answers) (Some v)) (sym (own ∙ second))
              (Contains-here (Some u) answers))
        ]
        | inr later ↦ inr (Contains-later (Some u) answers (Some g) later)
      ];
      first = let a = two.first in let b = is.first in omega (arith, ints);
      rest = λ v has. elim (Contains-cases (Some u) answers (Some v) has) [
        | inl here ↦
            let same : u ≡ v = cc in
            let second : v.0 ≤ℤ (greater_of t u).0 =
            subst (λ w. w.0 ≤ℤ (greater_of t u).0) same two.second in
            let b = is.first in omega (arith, ints)
        | inr later ↦ is.rest v later
      ];
    }

-- The greatest, as it is computed behind an intensity.
greatest_with : (answers : List (Option Tenths)) (t : Tenths)
    → IsGreatestWith t answers (fold greater_of t (without_none answers))
greatest_with [] t = record {
  one = inl refl;
  first = omega (arith, ints);
  rest = λ u has. absurd (omega (arith, has.1));
}
greatest_with (None ∷ answers) t = IsGreatestWith-none t answers _ (greatest_with answers t)
greatest_with (Some u ∷ answers) t =
    IsGreatestWith-some t u answers _ (greatest_with answers (greater_of t u))

-- One answer more in front that is none leaves the greatest.
IsGreatest-none : (answers : List (Option Tenths)) (greatest : Option Tenths)
    → IsGreatest answers greatest → IsGreatest (None ∷ answers) greatest
IsGreatest-none answers None is = All-cons (λ a. a ≡ None) None answers refl is
IsGreatest-none answers (Some g) (has, least) = (
  Contains-later None answers (Some g) has,
  λ u has_u. elim (Contains-cases None answers (Some u) has_u) [
    | inl none ↦ absurd (cc)
    | inr later ↦ least u later
  ],
)

-- What the function gives is the greatest answer.
greatest_of-is : (answers : List (Option Tenths)) → IsGreatest answers (greatest_of answers)
greatest_of-is [] = All-nil _
greatest_of-is (None ∷ answers) = IsGreatest-none answers _ (greatest_of-is answers)
greatest_of-is (Some t ∷ answers) =
    let g = fold greater_of t (without_none answers) in
    let is = greatest_with answers t in (
      elim is.one [
        | inl own ↦
            subst (λ v. Contains (Some t ∷ answers) (Some v)) (sym own)
            (Contains-here (Some t) answers)
        | inr later ↦ Contains-later (Some t) answers (Some g) later
      ],
      λ u has. elim (Contains-cases (Some t) answers (Some u) has) [
        | inl here ↦
            let same : t ≡ u = cc in subst (λ w. w.0 ≤ℤ g.0) same is.first
        | inr later ↦ is.rest u later
      ],
    )

-- Answers have one greatest.
greatest-only : (answers : List (Option Tenths)) (a b : Option Tenths)
    → IsGreatest answers a → IsGreatest answers b → a ≡ b
greatest-only answers None None first second = refl
greatest-only answers None (Some u) first second =
    let none : Some u ≡ None = All-contains (λ a. a ≡ None) answers (Some u) first second.0 in
    absurd (cc)
greatest-only answers (Some t) None first second =
    let none : Some t ≡ None = All-contains (λ a. a ≡ None) answers (Some t) second first.0 in
    absurd (cc)
greatest-only answers (Some t) (Some u) first second =
    let below : t.0 ≤ℤ u.0 = second.1 t first.0 in
    let above : u.0 ≤ℤ t.0 = first.1 u second.0 in
    let same : t.0 ≡ u.0 = omega (arith, ints) in
    let of : ℤ → Tenths = λ z. record { 0 = z } in
    ap (λ z. Some (of z)) same

-- Exactly what the function gives is the greatest.
pub greatest_of-exactly : (answers : List (Option Tenths)) (greatest : Option Tenths)
    → (IsGreatest answers greatest → greatest ≡ greatest_of answers)
    × (greatest ≡ greatest_of answers → IsGreatest answers greatest)
greatest_of-exactly answers greatest = (
  λ is. greatest-only answers greatest (greatest_of answers) is (greatest_of-is answers),
  λ is. subst (IsGreatest answers) (sym is) (greatest_of-is answers),
)
