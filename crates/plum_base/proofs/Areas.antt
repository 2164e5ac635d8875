-- The areas of a list of targets, target by target.
use Rattle.std.proofs.Common.{◌≡◌, ◌↔◌, ℕ, zero, suc, ◌+◌, ◌<◌, Bool, true, false, not, ◌||◌, cond}
use Rattle.std.proofs.Common.{List, [], ◌∷◌, ◌++◌, length, map, filter, take, get_or, slice_get}
use Rattle.std.proofs.Common.{Some, Any, IsSomeAnd, nat_eq, refl, sym, ap, ◌∙◌, arith}
use Rattle.std.specs.Cmp.Lexicographic.{pointwise, bytes_decides}
use Rattle.std.specs.List.{list_any}
use Rattle.std.proofs.lemmas.Bool.{false≢true, not_from_false, false_from_ne_true, or_left}
use Rattle.std.proofs.lemmas.Bool.{or_right}
use Rattle.std.proofs.lemmas.List.{take_more, map-append, append-nil, length_push}
use Rattle.std.proofs.lemmas.List.Elements.{filter-append}
use Rattle.std.proofs.lemmas.List.Folds.{Any-from_list_any, list_any-from_Any}
use Rattle.plum_base.specs.declared.numbers.AreaNo.{AreaNo}
use Rattle.plum_base.specs.declared.sites.TargetSite.{TargetSite}
use Rattle.plum_base.specs.Sites.{first_appearances, areas_of}

filter_last : (p b : Bool) (y : List ℕ) (test : List ℕ → Bool) → test y ≡ not p
    → filter test (cond b [] (y ∷ [])) ≡ cond (p || b) [] (y ∷ [])
filter_last true true y test e = refl
filter_last false true y test e = refl
filter_last true false y test e = rw e
filter_last false false y test e = rw e

-- one more member is one more appearance, unless it stands before
appearances_push : (xs : List (List ℕ)) (y : List ℕ)
    → first_appearances (xs ++ y ∷ []) ≡ first_appearances xs
    ++ cond (list_any (λ x. pointwise nat_eq x y) xs) [] (y ∷ [])
appearances_push [] y = refl
appearances_push (x ∷ xs) y =
    let test : List ℕ → Bool = λ z. not (pointwise nat_eq x z) in
    let b = list_any (λ z. pointwise nat_eq z y) xs in
    ap (λ l. x ∷ filter test l) (appearances_push xs y)
    ∙ ap (λ l. x ∷ l) (filter-append test (first_appearances xs) (cond b [] (y ∷ []))
    ∙ ap (λ l. filter test (first_appearances xs) ++ l)
    (filter_last (pointwise nat_eq x y) b y test refl))

neither : (p b : Bool) → ¬ (p ≡ true) → b ≡ false → (p || b) ≡ false
neither true b n e = absurd (n refl)
neither false b n e = e

seen : {X : Type 0} (v : X → List ℕ) (xs : List X) (y : List ℕ) (k : ℕ) (x : X) → k < length xs
    → get_or xs k x ≡ x → v x ≡ y → list_any (λ z. pointwise nat_eq z y) (map v xs) ≡ true
seen v [] y k x l e s = absurd (omega arith)
seen v (z ∷ xs) y zero x l e s = or_left _ _ ((bytes_decides (v z) y).1 (ap v e ∙ s))
seen v (z ∷ xs) y (suc k) x l e s = or_right _ _ (seen v xs y k x (omega arith) e s)

unseen : {X : Type 0} (v : X → List ℕ) (xs : List X) (y : List ℕ) → ¬ Any (λ x. v x ≡ y) xs
    → list_any (λ x. pointwise nat_eq x y) (map v xs) ≡ false
unseen v [] y none = refl
unseen v (x ∷ xs) y none =
    neither _ _ (λ t. none (0, x, omega arith, refl, (bytes_decides (v x) y).0 t))
    (unseen v xs y (λ w. none (suc w.0, w.1, omega (arith, w.2), w.3, w.4)))

areas_push : (ts : List TargetSite) (t : TargetSite)
    → areas_of (ts ++ t ∷ []) ≡ areas_of ts
    ++ cond (list_any (λ a. pointwise nat_eq a t.area) (map (λ u. u.area) ts)) [] (t.area ∷ [])
areas_push ts t =
    ap first_appearances (map-append (λ u. u.area) ts (t ∷ []))
    ∙ appearances_push (map (λ u. u.area) ts) t.area

one_target_more : (ts : List TargetSite) (i : ℕ) (t : TargetSite) → i < length ts
    → t ≡ get_or ts i t → areas_of (take (i + 1) ts) ≡ areas_of (take i ts ++ t ∷ [])
one_target_more ts i t l at =
    ap areas_of (take_more ts i t l ∙ ap (λ u. take i ts ++ u ∷ []) (sym at))

-- a target of an area that stands before
pub areas_same : (ts : List TargetSite) (i : ℕ) (t : TargetSite) → i < length ts → t ≡ get_or ts i t
    → Any (λ u. u.area ≡ t.area) (take i ts)
    → length (areas_of (take (i + 1) ts)) ≡ length (areas_of (take i ts))
areas_same ts i t l at w =
    let s = seen (λ u. u.area) (take i ts) t.area w.0 w.1 w.2 w.3 w.4 in
    ap length (one_target_more ts i t l at ∙ areas_push (take i ts) t)
    ∙ ap (λ b. length (areas_of (take i ts) ++ cond b [] (t.area ∷ []))) s
    ∙ ap length (append-nil (areas_of (take i ts)))

-- a target of another area
pub areas_new : (ts : List TargetSite) (i : ℕ) (t : TargetSite) → i < length ts → t ≡ get_or ts i t
    → ¬ Any (λ u. u.area ≡ t.area) (take i ts)
    → length (areas_of (take (i + 1) ts)) ≡ length (areas_of (take i ts)) + 1
areas_new ts i t l at none =
    let s = unseen (λ u. u.area) (take i ts) t.area none in
    ap length (one_target_more ts i t l at ∙ areas_push (take i ts) t)
    ∙ ap (λ b. length (areas_of (take i ts) ++ cond b [] (t.area ∷ []))) s
    ∙ length_push (areas_of (take i ts)) t.area

agree : (p b c : Bool) → (p ≡ false → b ≡ c) → (p || b) ≡ (p || c)
agree true b c e = refl
agree false b c e = e refl

skipped : (p : Bool) (z : List ℕ) (zs : List (List ℕ)) (sought : List ℕ → Bool)
    → (sought z ≡ true → p ≡ true)
    → list_any sought (cond p (z ∷ zs) zs) ≡ (sought z || list_any sought zs)
skipped true z zs sought passes = refl
skipped false z zs sought passes =
    let unsought : sought z ≡ false = false_from_ne_true (sought z) (λ t. false≢true (passes t)) in
    ap (λ b. b || list_any sought zs) (sym unsought)

-- a filter that what is sought passes
any_filtered : (test sought : List ℕ → Bool) → ((z : List ℕ) → sought z ≡ true → test z ≡ true)
    → (zs : List (List ℕ)) → list_any sought (filter test zs) ≡ list_any sought zs
any_filtered test sought passes [] = refl
any_filtered test sought passes (z ∷ zs) =
    skipped (test z) z (filter test zs) sought (passes z)
    ∙ ap (λ b. sought z || b) (any_filtered test sought passes zs)

-- what appears is what stands in the list
any_appears : (xs : List (List ℕ)) (y : List ℕ)
    → list_any (λ x. pointwise nat_eq x y) (first_appearances xs)
    ≡ list_any (λ x. pointwise nat_eq x y) xs
any_appears [] y = refl
any_appears (x ∷ xs) y =
    let test : List ℕ → Bool = λ z. not (pointwise nat_eq x z) in
    let sought : List ℕ → Bool = λ z. pointwise nat_eq z y in
    agree (pointwise nat_eq x y) _ _ (λ e. any_filtered test sought
    (λ z s. not_from_false (pointwise nat_eq x z)
    (ap (λ w. pointwise nat_eq x w) ((bytes_decides z y).0 s) ∙ e)) (first_appearances xs)
    ∙ any_appears xs y)

any_same : (xs : List (List ℕ)) (y : List ℕ)
    → (list_any (λ x. pointwise nat_eq x y) xs ≡ true) ↔ Any (λ x. x ≡ y) xs
any_same xs y = (
  λ t. let w = Any-from_list_any (λ x. pointwise nat_eq x y) xs t
      in (w.0, w.1, w.2, w.3, (bytes_decides w.1 y).0 w.4),
  λ w. list_any-from_Any (λ x. pointwise nat_eq x y) xs
      (w.0, w.1, w.2, w.3, (bytes_decides w.1 y).1 w.4),
)

-- a target whose area is there
pub same_areas : (ts : List TargetSite) (t : TargetSite) → Any (λ a. a ≡ t.area) (areas_of ts)
    → areas_of (ts ++ t ∷ []) ≡ areas_of ts
same_areas ts t among =
    let s = sym (any_appears (map (λ u. u.area) ts) t.area)
    ∙ (any_same (areas_of ts) t.area).1 among in
    areas_push ts t ∙ ap (λ b. areas_of ts ++ cond b [] (t.area ∷ [])) s
    ∙ append-nil (areas_of ts)

-- a target of another area
pub more_areas : (ts : List TargetSite) (t : TargetSite) → ¬ Any (λ a. a ≡ t.area) (areas_of ts)
    → areas_of (ts ++ t ∷ []) ≡ areas_of ts ++ t.area ∷ []
more_areas ts t among =
    let none : list_any (λ a. pointwise nat_eq a t.area) (areas_of ts) ≡ false =
    false_from_ne_true _ (λ s. among ((any_same (areas_of ts) t.area).0 s)) in
    let s = sym (any_appears (map (λ u. u.area) ts) t.area) ∙ none in
    areas_push ts t ∙ ap (λ b. areas_of ts ++ cond b [] (t.area ∷ [])) s

-- the same, where the target is the next of a list
pub areas_unchanged : (ts : List TargetSite) (i : ℕ) (t : TargetSite) → i < length ts
    → t ≡ get_or ts i t → Any (λ a. a ≡ t.area) (areas_of (take i ts))
    → areas_of (take (i + 1) ts) ≡ areas_of (take i ts)
areas_unchanged ts i t l at among = one_target_more ts i t l at ∙ same_areas (take i ts) t among

pub areas_pushed : (ts : List TargetSite) (i : ℕ) (t : TargetSite) → i < length ts
    → t ≡ get_or ts i t → ¬ Any (λ a. a ≡ t.area) (areas_of (take i ts))
    → areas_of (take (i + 1) ts) ≡ areas_of (take i ts) ++ t.area ∷ []
areas_pushed ts i t l at among = one_target_more ts i t l at ∙ more_areas (take i ts) t among

-- each target's area is among all
pub area_among : (ts : List TargetSite) (i : ℕ) (t : TargetSite) → i < length ts → t ≡ get_or ts i t
    → Any (λ a. a ≡ t.area) (areas_of ts)
area_among ts i t l at =
    (any_same (areas_of ts) t.area).0 (any_appears (map (λ u. u.area) ts) t.area
    ∙ seen (λ u. u.area) ts t.area i t l (sym at) refl)

-- the number at a target is that of its area
pub numbered_at : (areas : List (List ℕ)) (ts : List TargetSite) (ns : List AreaNo) (k : ℕ)
    (n : AreaNo) → map (λ m. slice_get areas m.0) ns ≡ map (λ t. Some t.area) ts → k < length ts
    → n ≡ get_or ns k n → IsSomeAnd (slice_get ts k) (λ t. slice_get areas n.0 ≡ Some t.area)
numbered_at areas [] ns k n e l at = absurd (omega arith)
numbered_at areas (t ∷ ts) [] k n e l at = cc
numbered_at areas (t ∷ ts) (m ∷ ns) zero n e l at = cc
numbered_at areas (t ∷ ts) (m ∷ ns) (suc k) n e l at =
    let rest : map (λ m. slice_get areas m.0) ns ≡ map (λ t. Some t.area) ts = cc in
    numbered_at areas ts ns k n rest (omega arith) at
