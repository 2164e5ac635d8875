-- Targets by their numbers.
use Rattle.std.proofs.Common.{◌≡◌, ◌<◌, ℕ, zero, suc, List, [], ◌∷◌, ◌++◌, length, slice_get}
use Rattle.std.proofs.Common.{Some, refl, sym, ap, ap₂, ◌∙◌, subst}
use Rattle.std.proofs.lemmas.List.{map-append}
use Rattle.std.proofs.lemmas.List.Elements.{All-from_recursion}
use Rattle.std.proofs.lemmas.Option.{slice_get_within}
use Rattle.std.specs.List.{AllByRecursion}
use Rattle.std.specs.Prelude.{All}
use Rattle.plum_base.specs.declared.numbers.TargetNo.{TargetNo}
use Rattle.plum_base.specs.declared.sites.TargetSite.{TargetSite}
use Rattle.plum_base.specs.Sites.{AreNumbersOf}

module _ (targets : List TargetSite) where
  -- What stands at the n-th number is the n-th of those.
  pub numbers_at : (numbers : List TargetNo) (those : List TargetSite) (n : ℕ) (t : TargetNo)
      → AreNumbersOf targets numbers those → slice_get numbers n ≡ Some t
      → (s : TargetSite) × (slice_get those n ≡ Some s) × (slice_get targets t.0 ≡ Some s)
  numbers_at [] those n t are is = cc
  numbers_at (k ∷ ks) [] n t are is = cc
  numbers_at (k ∷ ks) (s ∷ ss) zero t are is =
      let same : k ≡ t = cc in
      let first : slice_get targets k.0 ≡ Some s = cc in
      (s, refl, subst (λ (t : TargetNo). slice_get targets t.0 ≡ Some s) same first)
  numbers_at (k ∷ ks) (s ∷ ss) (suc n) t are is =
      let rest : AreNumbersOf targets ks ss = cc in
      numbers_at ks ss n t rest is

  exist : (numbers : List TargetNo) (those : List TargetSite) → AreNumbersOf targets numbers those
      → AllByRecursion (λ t. t.0 < length targets) numbers
  exist [] those are = tt
  exist (k ∷ ks) [] are = absurd (cc)
  exist (k ∷ ks) (s ∷ ss) are =
      let first : slice_get targets k.0 ≡ Some s = cc in
      let rest : AreNumbersOf targets ks ss = cc in
      (slice_get_within targets k.0 s first, exist ks ss rest)

  -- There are targets of these numbers.
  pub numbers_exist : (numbers : List TargetNo) (those : List TargetSite)
      → AreNumbersOf targets numbers those → All (λ t. t.0 < length targets) numbers
  numbers_exist numbers those are =
      All-from_recursion (λ t. t.0 < length targets) numbers (exist numbers those are)

  -- Those are as many as the numbers.
  pub as_many : (numbers : List TargetNo) (those : List TargetSite)
      → AreNumbersOf targets numbers those → length those ≡ length numbers
  as_many [] [] are = refl
  as_many [] (s ∷ ss) are = absurd (cc)
  as_many (k ∷ ks) [] are = absurd (cc)
  as_many (k ∷ ks) (s ∷ ss) are =
      let rest : AreNumbersOf targets ks ss = cc in
      ap suc (as_many ks ss rest)

  -- one number more
  pub numbers_push : (numbers : List TargetNo) (those : List TargetSite) (t : TargetNo)
      (s : TargetSite) → AreNumbersOf targets numbers those → slice_get targets t.0 ≡ Some s
      → AreNumbersOf targets (numbers ++ t ∷ []) (those ++ s ∷ [])
  numbers_push numbers those t s are is =
      map-append (λ (n : TargetNo). slice_get targets n.0) numbers (t ∷ [])
      ∙ ap₂ (λ xs x. xs ++ x ∷ []) are is
      ∙ sym (map-append Some those (s ∷ []))
