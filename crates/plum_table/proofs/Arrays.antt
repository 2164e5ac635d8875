-- The items of an array, beside what the format says of an array of a kind.
use Rattle.std.proofs.Common.{◌≡◌, ℕ, suc, ◌≤◌, List, [], ◌∷◌, length, Option, Some, None, IsSome}
use Rattle.std.proofs.Common.{option_map, Ok, Err, true, inl, inr, refl, ap, arith}
use Rattle.std.proofs.lemmas.Bool.{cases_Bool, false≢true, leb-true}
use Rattle.std.proofs.lemmas.Bool.Decides.{nat_tests}
use Rattle.std.proofs.lemmas.List.Elements.{All-nil, All-cons, All-head, All-tail}
use Rattle.std.specs.Prelude.{ok_or, option_and_then, nat_le}
use Rattle.std.specs.List.{cons_option}
use Rattle.toml.specs.Data.{Data, Items, as_array}
use Rattle.toml.specs.View.{view, items_view}
use Rattle.toml.specs.declared.value.Value.{Value}
use Rattle.plum_table.specs.declared.fault.SetupKey.{SetupKey}
use Rattle.plum_table.specs.declared.fault.SetupFault.TheVariants.{Kind, Range}
use Rattle.plum_table.specs.Kinds.{◌>>=◌, of_kind, all_of, as_array_of, in_count}
use Rattle.plum_table.specs.Values.{AreAll, values_as}

one_more : {A : Type 0} (o : Option A) (more : Option (List A)) (xs : List A) → IsSome o
    → more ≡ Some xs
    → option_and_then (λ x. option_map (λ ys. x ∷ ys) more) o ≡ Some (cons_option o xs)
one_more None more xs some is = absurd (false≢true some)
one_more (Some x) more xs some is = rw is

-- items that are all of the kind
all_of-each : {A : Type 0} (kind : Data → Option A) (vs : List Value) → AreAll kind vs
    → all_of kind (items_view vs) ≡ Some (values_as kind vs)
all_of-each kind [] each = refl
all_of-each kind (v ∷ vs) each =
    one_more (kind (view v)) _ _ (All-head (λ (x : Value). IsSome (kind (view x))) v vs each)
    (all_of-each kind vs (All-tail (λ (x : Value). IsSome (kind (view x))) v vs each))

none_more : {A : Type 0} (o : Option A) (more : Option (List A)) → (IsSome o → more ≡ None)
    → option_and_then (λ x. option_map (λ ys. x ∷ ys) more) o ≡ None
none_more None more none = refl
none_more (Some x) more none = rw (none refl)

-- items that are not
all_of-other : {A : Type 0} (kind : Data → Option A) (vs : List Value) → ¬ AreAll kind vs
    → all_of kind (items_view vs) ≡ None
all_of-other kind [] other = absurd (other (All-nil (λ (x : Value). IsSome (kind (view x)))))
all_of-other kind (v ∷ vs) other =
    none_more (kind (view v)) _ (λ some. all_of-other kind vs
    (λ each. other (All-cons (λ (x : Value). IsSome (kind (view x))) v vs some each)))

items_of_array : {A : Type 0} (kind : Data → Option A) (key : SetupKey) (a : Option Items)
    (items : Items) → Ok items ≡ ok_or a (Kind key)
    → ok_or (option_and_then (all_of kind) a) (Kind key) ≡ ok_or (all_of kind items) (Kind key)
items_of_array kind key None items is = cc
items_of_array kind key (Some ds) items is = let same : items ≡ ds = cc in rw same

-- An array that was read is of the kind where its items are.
of_kind-array : {A : Type 0} (kind : Data → Option A) (key : SetupKey) (found : Option Data)
    (items : Items) → Ok items ≡ of_kind as_array key found
    → of_kind (as_array_of kind) key found ≡ ok_or (all_of kind items) (Kind key)
of_kind-array kind key None items is = cc
of_kind-array kind key (Some d) items is = items_of_array kind key (as_array d) items is

one_longer : {A : Type 0} (o : Option A) (xs : List A) (n : ℕ) → IsSome o → length xs ≡ n
    → length (cons_option o xs) ≡ suc n
one_longer None xs n some is = absurd (false≢true some)
one_longer (Some x) xs n some is = ap suc is

-- Each item says something.
length-values_as : {A : Type 0} (kind : Data → Option A) (vs : List Value) → AreAll kind vs
    → length (values_as kind vs) ≡ length vs
length-values_as kind [] each = refl
length-values_as kind (v ∷ vs) each =
    one_longer (kind (view v)) _ _ (All-head (λ (x : Value). IsSome (kind (view x))) v vs each)
    (length-values_as kind vs (All-tail (λ (x : Value). IsSome (kind (view x))) v vs each))

in_count-within : {A : Type 0} (key : SetupKey) (most : ℕ) (xs : List A)
    → 1 ≤ length xs → length xs ≤ most → in_count key most xs ≡ Ok xs
in_count-within key most xs some few =
    let first : nat_le 1 (length xs) ≡ true = grind (arith, nat_tests) in
    let second : nat_le (length xs) most ≡ true = grind (arith, nat_tests) in
    rw (first, second)

in_count-out : {A : Type 0} (key : SetupKey) (most : ℕ) (xs : List A)
    → ¬ ((1 ≤ length xs) × (length xs ≤ most)) → in_count key most xs ≡ Err (Range key)
in_count-out key most xs out =
    elim (cases_Bool (nat_le 1 (length xs))) [
      | inl some ↦ elim (cases_Bool (nat_le (length xs) most)) [
        | inl few ↦ absurd (out (leb-true _ _ some, leb-true _ _ few))
        | inr many ↦ rw (some, many)
      ]
      | inr none ↦ rw none
    ]

module _ {A : Type 0} (kind : Data → Option A) (key : SetupKey) (most : ℕ) (found : Option Data)
    (vs : List Value) (is : Ok (items_view vs) ≡ of_kind as_array key found) where
  -- an array of the kind, of so many
  pub array_of_kind : AreAll kind vs → (1 ≤ length vs) × (length vs ≤ most)
      → (of_kind (as_array_of kind) key found >>= in_count key most) ≡ Ok (values_as kind vs)
  array_of_kind each within =
      let same = length-values_as kind vs each in
      rw (of_kind-array kind key found (items_view vs) is, all_of-each kind vs each)
      (in_count-within key most (values_as kind vs) (rw same within.0) (rw same within.1))

  -- an array of the kind, of none or too many
  pub array_of_count : AreAll kind vs → ¬ ((1 ≤ length vs) × (length vs ≤ most))
      → (of_kind (as_array_of kind) key found >>= in_count key most) ≡ Err (Range key)
  array_of_count each out =
      let same = length-values_as kind vs each in
      rw (of_kind-array kind key found (items_view vs) is, all_of-each kind vs each)
      (in_count-out key most (values_as kind vs) (λ within. out (rw same at within)))

  -- an array of another kind
  pub array_of_other : ¬ AreAll kind vs
      → (of_kind (as_array_of kind) key found >>= in_count key most) ≡ Err (Kind key)
  array_of_other other =
      rw (of_kind-array kind key found (items_view vs) is, all_of-other kind vs other)
