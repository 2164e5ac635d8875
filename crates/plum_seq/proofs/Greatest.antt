-- The order of keys, and the greatest of them.
use Rattle.std.proofs.Common.{◌≡◌, Bool, true, false, ◌&&◌, inl, inr, List, [], ◌∷◌, ◌++◌, Option}
use Rattle.std.proofs.Common.{Some, None, MatchOption, refl, sym, ◌∙◌, ap, subst, arith, ◌<◌}
use Rattle.std.proofs.Common.{length, length-append}
use Rattle.std.proofs.Math.Bool.{and-true}
use Rattle.std.proofs.lemmas.Bool.{cases_Bool}
use Rattle.std.proofs.lemmas.Bool.Decides.{nat_tests}
use Rattle.std.proofs.lemmas.List.{get_or_append_left}
use Rattle.std.proofs.lemmas.List.Elements.{All-nil, All-push, All-weaker}
use Rattle.std.proofs.lemmas.List.Folds.{list_all-append}
use Rattle.std.proofs.lemmas.List.Quantifiers.{Any-push}
use Rattle.std.proofs.lemmas.List.Sums.{fold-append}
use Rattle.std.specs.Prelude.{Any}
use Rattle.plum_base.specs.declared.numbers.Key.{Key}
use Rattle.plum_seq.specs.Keys.{is_below, is_above_all, greater_key, greatest_key, IsGreatestKey}
use Rattle.plum_seq.specs.Keys.{is_fresh_after}
use Rattle.plum_base.proofs.Pushes.{by_push}

-- The order of keys is transitive.
is_below-trans : (a b c : Key) → is_below a b ≡ true → is_below b c ≡ true → is_below a c ≡ true
is_below-trans a b c below above = grind (arith, nat_tests)

-- What is above a key is above any other that is not above that key.
is_below-past : (a b c : Key) → is_below b a ≡ false → is_below b c ≡ true → is_below a c ≡ true
is_below-past a b c not_below above = grind (arith, nat_tests)

-- What is not above a key is not above a greater one.
is_below-chain : (a b c : Key) → is_below a b ≡ true → is_below a c ≡ false → is_below b c ≡ false
is_below-chain a b c below not_below = grind (arith, nat_tests)

-- A key is not above itself.
is_below-irrefl : (a : Key) → is_below a a ≡ false
is_below-irrefl a = grind (arith, nat_tests)

-- the key is above the other, if there is one
abbrev pub is_above : Option Key → Key → Bool
is_above None key = true
is_above (Some greatest) key = is_below greatest key

-- A key is above the greater of two where it is above both.
is_above-greater : (o : Option Key) (k key : Key)
    → is_above (greater_key o k) key ≡ (is_above o key && is_below k key)
is_above-greater None k key = refl
is_above-greater (Some greatest) k key = grind (arith, nat_tests)

-- the greater of two where the second is above the first
pub greater_key-above : (o : Option Key) (key : Key)
    → is_above o key ≡ true → greater_key o key ≡ Some key
greater_key-above None key above = refl
greater_key-above (Some greatest) key above = rw above

-- and where it is not
pub greater_key-not_above : (o : Option Key) (key : Key)
    → is_above o key ≡ false → greater_key o key ≡ o
greater_key-not_above None key not_above = cc
greater_key-not_above (Some greatest) key not_above = rw not_above

-- the greatest, one key more
pub greatest_key-push : (keys : List Key) (key : Key)
    → greatest_key (keys ++ key ∷ []) ≡ greater_key (greatest_key keys) key
greatest_key-push keys key = fold-append greater_key None keys (key ∷ [])

-- above all, one key more
is_above_all-push : (keys : List Key) (k key : Key)
    → is_above_all (keys ++ k ∷ []) key ≡ (is_above_all keys key && is_below k key)
is_above_all-push keys k key =
    list_all-append (λ q. is_below q key) keys (k ∷ [])
    ∙ ap (λ b. is_above_all keys key && b) (and-true (is_below k key))

-- A key is above all exactly where it is above the greatest.
pub is_above_all-is_above : (keys : List Key) (key : Key)
    → is_above_all keys key ≡ is_above (greatest_key keys) key
is_above_all-is_above =
    by_push (λ keys. (key : Key) → is_above_all keys key ≡ is_above (greatest_key keys) key)
    (λ key. refl)
    (λ keys k before key.
    is_above_all-push keys k key
    ∙ ap (λ b. b && is_below k key) (before key)
    ∙ sym (is_above-greater (greatest_key keys) k key)
    ∙ ap (λ o. is_above o key) (sym (greatest_key-push keys k)))

-- What holds of an element of a list holds of one of the longer list.
Any-before : {X : Type 0} (P : X → Type 0) (xs : List X) (y : X) → Any P xs → Any P (xs ++ y ∷ [])
Any-before P xs y (k, x, below, is, has) =
    let within : k < length (xs ++ y ∷ []) = omega (arith, length-append xs (y ∷ [])) in
    (k, x, within, get_or_append_left xs (y ∷ []) x k below ∙ is, has)

-- This is the greatest of the keys, or none where there are no keys.
IsGreatestOf : List Key → Option Key → Type 0
IsGreatestOf keys o = MatchOption o (keys ≡ []) (IsGreatestKey keys)

-- one key more that is above the greatest
IsGreatestKey-above : (keys : List Key) (greatest key : Key) → IsGreatestKey keys greatest
    → is_below greatest key ≡ true → IsGreatestKey (keys ++ key ∷ []) key
IsGreatestKey-above keys greatest key is above = record {
  one = Any-push (λ k. k ≡ key) keys key refl;
  greatest = All-push (λ k. is_below key k ≡ false) keys key
      (All-weaker (λ k. is_below greatest k ≡ false) (λ k. is_below key k ≡ false)
      (λ k not_above. is_below-chain greatest key k above not_above) keys is.greatest)
      (is_below-irrefl key);
}

-- one key more that is not above it
IsGreatestKey-not_above : (keys : List Key) (greatest key : Key) → IsGreatestKey keys greatest
    → is_below greatest key ≡ false → IsGreatestKey (keys ++ key ∷ []) greatest
IsGreatestKey-not_above keys greatest key is not_above = record {
  one = Any-before (λ k. k ≡ greatest) keys key is.one;
  greatest = All-push (λ k. is_below greatest k ≡ false) keys key is.greatest not_above;
}

-- one key more
IsGreatestOf-push : (keys : List Key) (key : Key) (o : Option Key) → IsGreatestOf keys o
    → IsGreatestOf (keys ++ key ∷ []) (greater_key o key)
unfolding IsGreatestOf
IsGreatestOf-push keys key None none = rw none (record {
  one = Any-push (λ k. k ≡ key) [] key refl;
  greatest = All-push (λ k. is_below key k ≡ false) [] key (All-nil _) (is_below-irrefl key);
})
IsGreatestOf-push keys key (Some greatest) is = elim (cases_Bool (is_below greatest key)) [
  | inl above ↦ rw above (IsGreatestKey-above keys greatest key is above)
  | inr not_above ↦ rw not_above (IsGreatestKey-not_above keys greatest key is not_above)
]

-- The greatest key as it is computed is the greatest.
greatest_key-is : (keys : List Key) → IsGreatestOf keys (greatest_key keys)
unfolding IsGreatestOf
greatest_key-is = by_push (λ keys. IsGreatestOf keys (greatest_key keys)) refl
    (λ keys key before.
    rw (greatest_key-push keys key) (IsGreatestOf-push keys key (greatest_key keys) before))

-- Where there is one it is the greatest of the keys.
pub greatest_key-is_greatest : (keys : List Key) (key : Key)
    → greatest_key keys ≡ Some key → IsGreatestKey keys key
unfolding IsGreatestOf
greatest_key-is_greatest keys key is = subst (IsGreatestOf keys) is (greatest_key-is keys)

-- Where there is none there is no key.
pub greatest_key-none : (keys : List Key) → greatest_key keys ≡ None → keys ≡ []
unfolding IsGreatestOf
greatest_key-none keys is = subst (IsGreatestOf keys) is (greatest_key-is keys)

-- By the greatest of the keys: whether a key is above all of them.
pub is_above_all-known : (keys : List Key) (known : Option Key) (key : Key)
    → known ≡ greatest_key keys → is_above_all keys key ≡ is_above known key
is_above_all-known keys known key is =
    is_above_all-is_above keys key ∙ ap (λ o. is_above o key) (sym is)

-- By the greatest of the keys: whether a key is fresh after them.
pub is_fresh-known : (keys : List Key) (known : Option Key) (key : Key)
    → known ≡ greatest_key keys → is_fresh_after (greatest_key keys) key ≡ is_fresh_after known key
is_fresh-known keys known key is = ap (λ o. is_fresh_after o key) (sym is)
