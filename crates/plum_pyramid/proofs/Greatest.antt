-- The greatest of what is said over a run: of none, of one, of two runs joined.
use Rattle.std.proofs.Common.{◌≡◌, ℕ, ◌+◌, ◌<◌, ◌≤◌, ◌⊎◌, List, Option, Some, None, inl, inr}
use Rattle.std.proofs.Common.{sym, ◌∙◌, subst, arith}
use Rattle.std.proofs.lemmas.Bool.{cases_lt}
use Rattle.std.proofs.lemmas.Int.{ints}
use Rattle.std.proofs.lemmas.Option.{same_Some}
use lib.Signed.{≤ℤ_refl}
use Rattle.std.specs.Prelude.{slice_get, IfSome}
use Rattle.plum_base.specs.declared.numbers.Tenths.{Tenths}
use Rattle.plum_pyramid.specs.declared.layout.Member.{Member}
use Rattle.plum_geo.specs.Prediction.{IsAtMost}
use Rattle.plum_geo.proofs.Predictions.{IfSome-one}
use Rattle.plum_pyramid.specs.Maxima.{IsGreatest}

pub IsAtMost-refl : (a : Option Tenths) → IsAtMost a a
IsAtMost-refl None = tt
IsAtMost-refl (Some t) = ≤ℤ_refl t.0

pub IsAtMost-trans : (a b c : Option Tenths) → IsAtMost a b → IsAtMost b c → IsAtMost a c
IsAtMost-trans None b c first second = tt
IsAtMost-trans (Some t) None c first second = absurd first
IsAtMost-trans (Some t) (Some r) None first second = absurd second
IsAtMost-trans (Some t) (Some r) (Some s) first second = omega (arith, ints)

module _ (says : Member → Option Tenths) (members : List Member) where
  -- One of a run from position a up to b says this.
  abbrev SaidIn : ℕ → ℕ → Tenths → Type 0
  SaidIn a b t = (p : ℕ) × (m : Member) × (a ≤ p) × (p < b)
      × (slice_get members p ≡ Some m) × (says m ≡ Some t)

  -- it is said in any run around
  SaidIn-wider : (a b c d : ℕ) → c ≤ a → b ≤ d → (o : Option Tenths) → IfSome o (SaidIn a b)
      → IfSome o (SaidIn c d)
  SaidIn-wider a b c d below above None one = tt
  SaidIn-wider a b c d below above (Some t) (p, m, from, to, is, says) =
      (p, m, omega arith, omega arith, is, says)

  -- of none
  pub IsGreatest-nil : (a b : ℕ) → b ≤ a → IsGreatest says members a b None
  IsGreatest-nil a b none = record {
    covers = λ p m from to is. absurd (omega arith);
    one = tt;
  }

  -- of one
  module _ (p : ℕ) (m : Member) (is : slice_get members p ≡ Some m) where
    said_here : (o : Option Tenths) → o ≡ says m → IfSome o (SaidIn p (p + 1))
    said_here None same = tt
    said_here (Some t) same = (p, m, omega arith, omega arith, is, sym same)

    pub IsGreatest-one : (o : Option Tenths) → o ≡ says m → IsGreatest says members p (p + 1) o
    IsGreatest-one o same = record {
      covers = λ q other from to here.
          let at : q ≡ p = omega arith in
          let there : slice_get members p ≡ Some other =
          subst (λ k. slice_get members k ≡ Some other) at here in
          let equal : m ≡ other = same_Some m other (sym is ∙ there) in
          subst (λ x. IsAtMost (says x) o) equal
          (subst (λ x. IsAtMost x o) same (IsAtMost-refl o));
      one = said_here o same;
    }

  -- of a run and what follows, where nothing there is greater
  pub IsGreatest-more : (a b c : ℕ) (x : Option Tenths) → b ≤ c → IsGreatest says members a b x
      → ((p : ℕ) (m : Member) → b ≤ p → p < c → slice_get members p ≡ Some m
      → IsAtMost (says m) x)
      → IsGreatest says members a c x
  IsGreatest-more a b c x more first rest = record {
    covers = λ p m from to is. elim (cases_lt p b) [
      | inl below ↦ first.covers p m from below is
      | inr above ↦ rest p m above to is
    ];
    one = SaidIn-wider a b a c (omega arith) more x first.one;
  }

  -- of two runs
  pub IsGreatest-join : (a b c : ℕ) (x y z : Option Tenths) → a ≤ b → b ≤ c
      → IsGreatest says members a b x → IsGreatest says members b c y
      → (z ≡ x) ⊎ (z ≡ y) → IsAtMost x z → IsAtMost y z → IsGreatest says members a c z
  IsGreatest-join a b c x y z below above first second either left right = record {
    covers = λ p m from to is. elim (cases_lt p b) [
      | inl before ↦ IsAtMost-trans (says m) x z (first.covers p m from before is) left
      | inr behind ↦ IsAtMost-trans (says m) y z (second.covers p m behind to is) right
    ];
    one =
        IfSome-one (SaidIn a c) x y z either
        (SaidIn-wider a b a c (omega arith) above x first.one)
        (SaidIn-wider b c a c below (omega arith) y second.one);
  }

  -- at the same ends
  pub IsGreatest-ends : (a b c d : ℕ) (x : Option Tenths) → a ≡ c → b ≡ d
      → IsGreatest says members a b x → IsGreatest says members c d x
  IsGreatest-ends a b c d x from to is =
      subst (λ k. IsGreatest says members c k x) to
      (subst (λ k. IsGreatest says members k b x) from is)

module _ (f g : Member → Option Tenths) (members : List Member) (a b : ℕ)
    (same : (p : ℕ) (m : Member) → a ≤ p → p < b → slice_get members p ≡ Some m → g m ≡ f m) where
  said_as : (o : Option Tenths) → IfSome o (SaidIn f members a b) → IfSome o (SaidIn g members a b)
  said_as None one = tt
  said_as (Some t) (p, m, from, to, is, says) =
      (p, m, from, to, is, same p m from to is ∙ says)

  -- where the same is said
  pub IsGreatest-as : (x : Option Tenths) → IsGreatest f members a b x
      → IsGreatest g members a b x
  IsGreatest-as x is = record {
    covers = λ p m from to there.
        subst (λ o. IsAtMost o x) (sym (same p m from to there)) (is.covers p m from to there);
    one = said_as x is.one;
  }
