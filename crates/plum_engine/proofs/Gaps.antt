-- The packets since the last gap.
use Rattle.std.proofs.Common.{◌≡◌, Bool, true, false, List, [], ◌∷◌, ◌++◌, ◌⊎◌, inl, inr, All, refl}
use Rattle.std.proofs.Common.{◌∙◌, ap}
use Rattle.std.proofs.Math.Bool.{or-true, or-false}
use Rattle.std.proofs.lemmas.List.Elements.{All-nil, All-cons, All-head, All-tail}
use Rattle.std.proofs.lemmas.List.Folds.{list_any-append}
use Rattle.std.specs.Prelude.{if◌then◌else◌}
use Rattle.std.specs.List.{list_any}
use Rattle.plum_base.specs.declared.wave.Sample.{Sample}
use Rattle.plum_engine.specs.Run.{since_gap, HasNoFresh, SplitsAtGap}

-- a test within an append
if-append_both : {X : Type 0} (b : Bool) (xs ys zs : List X)
    → (if b then xs ++ zs else ys ++ zs) ≡ (if b then xs else ys) ++ zs
if-append_both true xs ys zs = refl
if-append_both false xs ys zs = refl

module _ {W : Type 0} where
  -- whether one of these packets is fresh
  any_fresh : List (Bool × W) → Bool
  any_fresh given = list_any (λ p. p.0) given

  -- Where none is fresh the test finds none.
  any_fresh-none : (given : List (Bool × W))
      → All (λ p. p.0 ≡ false) given → any_fresh given ≡ false
  unfolding any_fresh
  any_fresh-none [] none = refl
  any_fresh-none (p ∷ ps) none =
      rw (All-head (λ q. q.0 ≡ false) p ps none)
      (any_fresh-none ps (All-tail (λ q. q.0 ≡ false) p ps none))

  -- A list with a fresh packet in it has one.
  any_fresh-gap : (front : List (Bool × W)) (w : W) (after : List (Bool × W))
      → any_fresh (front ++ (true, w) ∷ after) ≡ true
  unfolding any_fresh
  any_fresh-gap front w after = list_any-append (λ p. p.0) front ((true, w) ∷ after) ∙ or-true _

  -- one packet more that is not fresh
  any_fresh-continuing : (given : List (Bool × W)) (w : W)
      → any_fresh (given ++ (false, w) ∷ []) ≡ any_fresh given
  unfolding any_fresh
  any_fresh-continuing given w = list_any-append (λ p. p.0) given ((false, w) ∷ []) ∙ or-false _

  -- A fresh packet and those after it, none of which is fresh, are those since the last gap.
  pub since_gap-is : (front : List (Bool × W)) (w : W) (after : List (Bool × W))
      → All (λ p. p.0 ≡ false) after → since_gap (front ++ (true, w) ∷ after) ≡ (true, w) ∷ after
  unfolding any_fresh
  since_gap-is [] w after none = rw (any_fresh-none after none)
  since_gap-is (p ∷ front) w after none =
      rw (any_fresh-gap front w after) (since_gap-is front w after none)

  -- Where none is fresh all are.
  pub since_gap-all : (given : List (Bool × W))
      → All (λ p. p.0 ≡ false) given → since_gap given ≡ given
  unfolding any_fresh
  since_gap-all [] none = refl
  since_gap-all (p ∷ ps) none = rw (any_fresh-none ps (All-tail (λ q. q.0 ≡ false) p ps none))

  -- One packet more that is not fresh joins them.
  pub since_gap-continuing : (given : List (Bool × W)) (w : W)
      → since_gap (given ++ (false, w) ∷ []) ≡ since_gap given ++ (false, w) ∷ []
  unfolding any_fresh
  since_gap-continuing [] w = refl
  since_gap-continuing (p ∷ ps) w =
      rw (any_fresh-continuing ps w, since_gap-continuing ps w)
      (if-append_both (any_fresh ps) (since_gap ps) (p ∷ ps) ((false, w) ∷ []))

-- a split of later packets, behind one packet more
SplitsAtGap-behind : (p : Bool × List Sample) (ps : List (Bool × List Sample))
    → SplitsAtGap ps → SplitsAtGap (p ∷ ps)
SplitsAtGap-behind p ps split = record {
  front = p ∷ split.front;
  wave = split.wave;
  after = split.after;
  joined = ap (λ qs. p ∷ qs) split.joined;
  no_fresh = split.no_fresh;
}

-- The first packet decides where none of the later ones is fresh.
splits_at_first : (p : Bool × List Sample) (ps : List (Bool × List Sample)) → HasNoFresh ps
    → HasNoFresh (p ∷ ps) ⊎ SplitsAtGap (p ∷ ps)
splits_at_first (true, wave) ps none =
    inr (record { front = []; wave = wave; after = ps; joined = refl; no_fresh = none })
splits_at_first (false, wave) ps none = inl (All-cons (λ p. p.0 ≡ false) (false, wave) ps refl none)

-- No packet is fresh, or the list splits at the last fresh one.
pub each_splits : (given : List (Bool × List Sample)) → HasNoFresh given ⊎ SplitsAtGap given
each_splits [] = inl (All-nil _)
each_splits (p ∷ ps) = elim (each_splits ps) [
  | inl none ↦ splits_at_first p ps none
  | inr split ↦ inr (SplitsAtGap-behind p ps split)
]
