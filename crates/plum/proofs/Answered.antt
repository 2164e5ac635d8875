-- The answers of a drill's summary, line by line.
use Rattle.std.proofs.Common.{◌≡◌, ℕ, zero, suc, ◌+◌, ◌<◌, Bool, true, false, List, [], ◌∷◌, ◌++◌}
use Rattle.std.proofs.Common.{length, take, drop, zip, cond, get_or, Some, sym, ap, ap₂, ◌∙◌}
use Rattle.std.proofs.Common.{subst, arith, append-nil, append_assoc, bytes_eq}
use Rattle.std.proofs.lemmas.Grind.{flat_map-append}
use Rattle.std.proofs.lemmas.List.{drop_more, drop_all, length-append, take_more}
use Rattle.std.proofs.lemmas.Option.{slice_get_within, get_or_from_slice_get, slice_get-get_or}
use Rattle.std.proofs.lemmas.Slice.Zip.{length-zip, get_or-zip}
use Rattle.std.specs.List.{flat_map}
use Rattle.std.specs.Prelude.{slice_get, Option}
use Rattle.plum_base.specs.declared.numbers.Tenths.{Tenths}
use Rattle.plum_base.specs.declared.sites.TargetSite.{TargetSite}
use Rattle.plum_base.specs.Sites.{areas_of, targets_of}
use Rattle.plum_base.proofs.Pushes.{filter_more}
use Rattle.plum_text.specs.declared.lines.OutLine.{OutLine}
use Rattle.plum_text.specs.Lines.{out_line}
use Rattle.plum_text.specs.Texts.{answer_lines}

-- Of the targets of an area, one stands behind as many as there are of it before that one.
pub nth_of : (area : List ℕ) (targets : List TargetSite) (i : ℕ) (t : TargetSite)
    → slice_get targets i ≡ Some t → bytes_eq t.area area ≡ true
    → slice_get (targets_of area targets) (length (targets_of area (take i targets))) ≡ Some t
nth_of area [] i t is here = cc
nth_of area (x ∷ xs) zero t is here =
    let same : x ≡ t = cc in
    first (bytes_eq x.area area) (subst (λ (u : TargetSite). bytes_eq u.area area ≡ true)
    (sym same) here)
  where
    first : (b : Bool) → b ≡ true → slice_get (cond b (x ∷ targets_of area xs)
        (targets_of area xs)) 0
        ≡ Some t
    first true e = cc
    first false e = cc
nth_of area (x ∷ xs) (suc i) t is here =
    behind (bytes_eq x.area area) (nth_of area xs i t is here)
  where
    behind : (b : Bool)
        → slice_get (targets_of area xs) (length (targets_of area (take i xs))) ≡ Some t
        → slice_get (cond b (x ∷ targets_of area xs) (targets_of area xs))
        (length (cond b (x ∷ targets_of area (take i xs)) (targets_of area (take i xs)))) ≡ Some t
    behind true later = later
    behind false later = later

-- the lines of the areas from the a-th on, from 0
abbrev pub areas_left : ℕ → List TargetSite → List (List (Option Tenths)) → ℕ → List OutLine
areas_left m targets answers a = flat_map
    (λ of_area. answer_lines m (targets_of of_area.0 targets) of_area.1)
    (drop a (zip (areas_of targets) answers))

module _ (m : ℕ) (targets : List TargetSite) (answers : List (List (Option Tenths))) (a : ℕ) where
  abbrev asked : List (List ℕ × List (Option Tenths))
  asked = zip (areas_of targets) answers

  abbrev lines_of : List ℕ × List (Option Tenths) → List OutLine
  lines_of of_area = answer_lines m (targets_of of_area.0 targets) of_area.1

  -- an area is written, and the others are left
  pub area_more : (area : List ℕ) (of_area : List (Option Tenths)) (out new whole : List ℕ)
      → slice_get (areas_of targets) a ≡ Some area → slice_get answers a ≡ Some of_area
      → new ≡ out ++ flat_map out_line (answer_lines m (targets_of area targets) of_area)
      → out ++ flat_map out_line (areas_left m targets answers a) ≡ whole
      → new ++ flat_map out_line (areas_left m targets answers (a + 1)) ≡ whole
  area_more area of_area out new whole named answered written so_far =
      let pair : List ℕ → List (Option Tenths) → List ℕ × List (Option Tenths) = λ s c. (s, c) in
      let here : List ℕ × List (Option Tenths) = (area, of_area) in
      let listed : a < length (areas_of targets) =
      slice_get_within (areas_of targets) a area named in
      let within : a < length answers = slice_get_within answers a of_area answered in
      let stands : get_or asked a here ≡ here =
      get_or-zip (areas_of targets) answers a here listed within
      ∙ ap₂ pair (get_or_from_slice_get (areas_of targets) a area area named)
      (get_or_from_slice_get answers a of_area of_area answered) in
      let first : drop a asked ≡ here ∷ drop (a + 1) asked =
      drop_more asked a here (omega (arith, length-zip (areas_of targets) answers))
      ∙ ap (λ x. x ∷ drop (a + 1) asked) stands in
      let left = areas_left m targets answers (a + 1) in
      let both : flat_map out_line (areas_left m targets answers a)
      ≡ flat_map out_line (lines_of here) ++ flat_map out_line left =
      ap (λ l. flat_map out_line (flat_map lines_of l)) first
      ∙ flat_map-append out_line (lines_of here) left in
      ap (λ text. text ++ flat_map out_line left) written
      ∙ append_assoc out (flat_map out_line (lines_of here)) (flat_map out_line left)
      ∙ ap (λ text. out ++ text) (sym both) ∙ so_far

  -- no area is left
  pub no_area_more : (out whole : List ℕ) → a ≡ length (areas_of targets)
      → out ++ flat_map out_line (areas_left m targets answers a) ≡ whole → out ≡ whole
  no_area_more out whole is so_far =
      let left : drop a asked ≡ [] =
      drop_all a asked (omega (arith, length-zip (areas_of targets) answers)) in
      sym (append-nil out)
      ∙ ap (λ l. out ++ flat_map out_line (flat_map lines_of l)) (sym left) ∙ so_far

-- There is an answer at such a target.
pub has_answer : (area : List ℕ) (targets : List TargetSite) (i : ℕ) (t : TargetSite) (k : ℕ)
    (answers : List (Option Tenths)) → slice_get targets i ≡ Some t
    → bytes_eq t.area area ≡ true → k ≡ length (targets_of area (take i targets))
    → length answers ≡ length (targets_of area targets) → k < length answers
has_answer area targets i t k answers is here count long =
    let within = slice_get_within (targets_of area targets)
    (length (targets_of area (take i targets))) t (nth_of area targets i t is here) in
    omega (arith, count, long, within)

-- of the targets up to one of the area
module _ (area : List ℕ) (targets : List TargetSite) (i : ℕ) (t : TargetSite)
    (within : i < length targets) (is : t ≡ get_or targets i t) where
  pub target_is : slice_get targets i ≡ Some t
  target_is = slice_get-get_or targets i t within ∙ ap Some (sym is)

  up_to : take (i + 1) targets ≡ take i targets ++ t ∷ []
  up_to = take_more targets i t within ∙ ap (λ x. take i targets ++ x ∷ []) (sym is)

  -- there is one more of it,
  pub one_more_own : bytes_eq t.area area ≡ true
      → length (targets_of area (take (i + 1) targets))
      ≡ length (targets_of area (take i targets)) + 1
  one_more_own here =
      let own = targets_of area (take i targets) in
      let more = ap (λ ts. length (targets_of area ts)) up_to
      ∙ ap length (filter_more (λ t. bytes_eq t.area area) (take i targets) t true here) in
      omega (arith, more, length-append own (t ∷ []))

  -- and as many up to one of another area
  pub as_many_of_others : bytes_eq t.area area ≡ false
      → length (targets_of area (take (i + 1) targets))
      ≡ length (targets_of area (take i targets))
  as_many_of_others other =
      ap (λ ts. length (targets_of area ts)) up_to
      ∙ ap length (filter_more (λ t. bytes_eq t.area area) (take i targets) t false other
      ∙ append-nil (targets_of area (take i targets)))
