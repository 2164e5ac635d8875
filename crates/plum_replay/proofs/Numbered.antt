-- The lists of the areas.
use Rattle.std.proofs.Common.{◌≡◌, ◌≢◌, ◌<◌, ℕ, zero, suc, Bool, true, false, List, []}
use Rattle.std.proofs.Common.{◌∷◌, ◌++◌, not, length, map, filter, set, get_or, slice_get, Some}
use Rattle.std.proofs.Common.{AllPairs, Vec, bytes_eq, nat_eq, refl, sym, ap, ◌∙◌, subst}
use Rattle.std.proofs.Common.{arith}
use Rattle.std.proofs.Common.{get_or-set_same, get_or-set_other, length-set, inl, inr, nat_lt}
use Rattle.std.proofs.Common.{Option, None, IsSomeAnd}
use Rattle.std.proofs.lemmas.Bool.{cases_eq, cases_Bool, false_from_ne_true}
use Rattle.std.proofs.lemmas.List.{append-nil}
use Rattle.std.proofs.lemmas.List.Elements.{All-weaker, filter_passes}
use Rattle.std.proofs.lemmas.List.Kept.{AllPairs-cons, AllPairs-filter}
use Rattle.std.proofs.lemmas.Option.{slice_get_within, get_or_from_slice_get, slice_get-get_or}
use Rattle.std.proofs.lemmas.Option.{slice_get_read}
use Rattle.std.proofs.lemmas.Slice.Zip.{AllZip-long}
use Rattle.std.specs.Cmp.Lexicographic.{pointwise, bytes_decides}
use Rattle.std.specs.declared.alloc.Global.{Global}
use Rattle.std.specs.List.{AllZip}
use Rattle.std.specs.Prelude.{All}
use Rattle.plum_base.specs.declared.numbers.TargetNo.{TargetNo}
use Rattle.plum_base.specs.declared.sites.TargetSite.{TargetSite}
use Rattle.plum_base.proofs.ByNumber.{numbers_push}
use Rattle.plum_base.specs.Sites.{AreNumbersOf, areas_of, first_appearances, targets_of}
use Rattle.plum_base.proofs.Pushes.{filter_more}
use Rattle.plum_core.proofs.Lists.{beside}
use Rattle.plum_replay.proofs.Lists.{AllZip-by_index}
use Rattle.plum_replay.specs.Areas.{AreByArea}
use borrow.Author.Tests.{ltb-true, ltb-false}

-- what there is, and what holds of it
pub some_with : {X : Type 0} (o : Option X) (P : X → Type 0) → IsSomeAnd o P
    → (x : X) × (o ≡ Some x) × P x
some_with None P is = absurd is
some_with (Some x) P is = (x, refl, is)

-- what stands at the same place of two lists that are related place by place
pub AllZip-at : {X Y : Type 0} (R : X → Y → Type 0) (xs : List X) (ys : List Y) (i : ℕ) (x : X)
    (y : Y) → AllZip R xs ys → slice_get xs i ≡ Some x → slice_get ys i ≡ Some y → R x y
AllZip-at R [] [] i x y zip is_x is_y = cc
AllZip-at R [] (w ∷ ws) i x y zip is_x is_y = absurd zip
AllZip-at R (v ∷ vs) [] i x y zip is_x is_y = absurd zip
AllZip-at R (v ∷ vs) (w ∷ ws) zero x y zip is_x is_y =
    let left : v ≡ x = cc in
    let right : w ≡ y = cc in
    subst (R x) right (subst (λ v. R v w) left zip.0)
AllZip-at R (v ∷ vs) (w ∷ ws) (suc i) x y zip is_x is_y = AllZip-at R vs ws i x y zip.1 is_x is_y

-- Each area appears once.
areas_differ : (names : List (List ℕ)) → AllPairs (λ a b. a ≢ b) (first_appearances names)
areas_differ [] = λ i j d before within. absurd (omega arith)
areas_differ (x ∷ xs) =
    let test : List ℕ → Bool = λ y. not (pointwise nat_eq x y) in
    let others = first_appearances xs in
    AllPairs-cons (λ a b. a ≢ b) x (filter test others)
    (All-weaker (λ y. test y ≡ true) (λ y. x ≢ y)
    (λ y passes same. differs (pointwise nat_eq x y) passes ((bytes_decides x y).1 same))
    (filter test others) (filter_passes test others))
    (AllPairs-filter (λ a b. a ≢ b) test others (areas_differ xs))
  where
    differs : (b : Bool) → not b ≡ true → ¬ (b ≡ true)
    differs true passes is = cc
    differs false passes is = cc

-- What stands at two places differs.
apart_at : (xs : List (List ℕ)) → AllPairs (λ a b. a ≢ b) xs → (i j : ℕ) (x y : List ℕ) → i ≢ j
    → slice_get xs i ≡ Some x → slice_get xs j ≡ Some y → x ≢ y
apart_at xs pairs i j x y apart is_x is_y = λ same.
    let at_i : get_or xs i x ≡ x = get_or_from_slice_get xs i x x is_x in
    let at_j : get_or xs j x ≡ y = get_or_from_slice_get xs j y x is_y in
    let first : i < length xs = slice_get_within xs i x is_x in
    let second : j < length xs = slice_get_within xs j y is_y in
    elim (cases_Bool (nat_lt i j)) [
      | inl before ↦ pairs i j x (ltb-true i j before) second (at_i ∙ same ∙ sym at_j)
      | inr behind ↦
          let later : j < i = let past = ltb-false i j behind in omega arith in
          pairs j i x later first (at_j ∙ sym same ∙ sym at_i)
    ]

-- A target joins the targets of its own area, and of no other.
module _ (front : List TargetSite) (s : TargetSite) (area : List ℕ) where
  abbrev test : TargetSite → Bool
  test t = bytes_eq t.area area

  of_own : area ≡ s.area → targets_of area (front ++ s ∷ []) ≡ targets_of area front ++ s ∷ []
  of_own same = filter_more test front s true ((bytes_decides s.area area).1 (sym same))

  of_other : area ≢ s.area → targets_of area (front ++ s ∷ []) ≡ targets_of area front
  of_other apart =
      filter_more test front s false
      (false_from_ne_true (test s) (λ is. apart (sym ((bytes_decides s.area area).0 is))))
      ∙ append-nil (targets_of area front)

-- The list holds the targets of an area in a front.
abbrev pub HoldsIn : List TargetSite → List TargetSite → List ℕ → Vec TargetNo Global → Type 0
HoldsIn targets front area list = AreNumbersOf targets list.items (targets_of area front)

-- The lists hold the targets of a front, each list those of its area.
abbrev pub HoldFront : List TargetSite → List TargetSite → List (Vec TargetNo Global) → Type 0
HoldFront targets front lists = AllZip (HoldsIn targets front) (areas_of targets) lists

-- of no target, lists of none
pub HoldFront-nil : (targets : List TargetSite) (lists : List (Vec TargetNo Global))
    → length lists ≡ length (areas_of targets) → All (λ list. list.items ≡ []) lists
    → HoldFront targets [] lists
HoldFront-nil targets lists count none =
    let number : TargetNo → Option TargetSite = λ n. slice_get targets n.0 in
    AllZip-by_index (λ area list. AreNumbersOf targets list.items []) (areas_of targets) lists count
    (λ i area list _ at.
    let empty : list.items ≡ [] =
    subst (λ (l : Vec TargetNo Global). l.items ≡ []) (get_or_from_slice_get lists i list list at)
    (none i list (slice_get_within lists i list at)) in
    ap (map number) empty)

-- One target more is pushed to the list of its area.
module _ (targets front : List TargetSite) (lists : List (Vec TargetNo Global)) (s : TargetSite)
    (t : TargetNo) (a : ℕ) (list : Vec TargetNo Global) where
  abbrev more : List TargetSite
  more = front ++ s ∷ []

  abbrev Holds : List ℕ → Vec TargetNo Global → Type 0
  Holds = HoldsIn targets front

  abbrev HoldsMore : List ℕ → Vec TargetNo Global → Type 0
  HoldsMore = HoldsIn targets more

  pub HoldFront-more : HoldFront targets front lists → slice_get targets t.0 ≡ Some s
      → slice_get (areas_of targets) a ≡ Some s.area
      → list.items ≡ (get_or lists a list).items ++ t ∷ []
      → HoldFront targets more (set lists a list)
  HoldFront-more hold is_target named pushed =
      let areas : List (List ℕ) = areas_of targets in
      let long : length lists ≡ length areas = AllZip-long Holds areas lists hold in
      let inside : a < length areas = slice_get_within areas a s.area named in
      let within : a < length lists = omega arith in
      let old : Vec TargetNo Global = get_or lists a list in
      let before : Holds s.area old =
      AllZip-at Holds areas lists a s.area old hold named (slice_get-get_or lists a list within) in
      let own : HoldsMore s.area list =
      rw (pushed, of_own front s s.area refl)
      (numbers_push targets old.items (targets_of s.area front) t s before is_target) in
      AllZip-by_index HoldsMore areas (set lists a list) (length-set lists a list ∙ long)
      (λ i area now is_area is_now.
      let there : get_or (set lists a list) i now ≡ now =
      get_or_from_slice_get (set lists a list) i now now is_now in
      elim (cases_eq i a) [
        | inl here ↦
            let same_area : s.area ≡ area =
            let at_a = subst (λ n. slice_get areas n ≡ Some area) here is_area in cc in
            let same_list : list ≡ now =
            sym (get_or-set_same lists a list now within)
            ∙ ap (λ n. get_or (set lists a list) n now) (sym here) ∙ there in
            subst (HoldsMore area) same_list
            (subst (λ z. HoldsMore z list) same_area own)
        | inr apart ↦
            let listed : i < length lists =
            omega (arith, slice_get_within areas i area is_area) in
            let unchanged : slice_get lists i ≡ Some now =
            slice_get-get_or lists i now listed
            ∙ ap Some (sym (get_or-set_other lists a i list now apart) ∙ there) in
            let other : area ≢ s.area =
            apart_at areas (areas_differ (map (λ t. t.area) targets)) i a area s.area apart is_area
            named in
            rw (of_other front s area other)
            (AllZip-at Holds areas lists i area now hold is_area unchanged)
      ])

-- The numbers are those of the targets of the n-th area, from 0.
abbrev pub AreOfArea : List TargetSite → ℕ → List TargetNo → Type 0
AreOfArea targets n numbers = (area : List ℕ) × (slice_get (areas_of targets) n ≡ Some area)
    × AreNumbersOf targets numbers (targets_of area targets)

-- Those of the n-th list are.
pub list_at : (targets : List TargetSite) (lists : List (Vec TargetNo Global)) (n : ℕ)
    (list : Vec TargetNo Global) (numbers : List TargetNo) → AreByArea targets lists
    → n < length lists → list ≡ get_or lists n list → numbers ≡ list.items
    → AreOfArea targets n numbers
list_at targets lists n list numbers hold within is same =
    subst (AreOfArea targets n) (sym same)
    (beside (HoldsIn targets targets) (areas_of targets) lists n list hold
    (slice_get_read lists (length lists) n list refl within is))
