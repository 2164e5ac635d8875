-- Predictions fit the field of a value: what a station shows is on the scale, and the factors of
-- stations and targets are within theirs.
use Rattle.std.proofs.Common.{◌≡◌, ℕ, Bool, true, List, [], ◌∷◌, ◌==◌, ◌≤ℤ◌, ℤ, length}
use Rattle.std.proofs.Common.{int_le, nat_lt, Option, Some, None, IfSome, inl, inr, sym, subst}
use Rattle.std.proofs.Common.{arith, option_and_then, if◌then◌else◌}
use Rattle.std.proofs.lemmas.Bool.{cases_Bool, and_parts}
use Rattle.std.proofs.lemmas.Int.{ints}
use Rattle.std.proofs.lemmas.List.Elements.{recursion_from_All, filter_passes}
use Rattle.std.specs.List.{AllByRecursion, AllZip, last_or}
use Rattle.plum_base.specs.declared.entry.Entry.{Entry}
use Rattle.plum_base.specs.declared.numbers.Tenths.{Tenths}
use Rattle.plum_base.specs.declared.sites.StationSite.{StationSite}
use Rattle.plum_base.specs.declared.sites.TargetSite.{TargetSite}
use Rattle.plum_base.specs.Levels.{IsFactor}
use Rattle.plum_core.specs.Prediction.{FindsNear, IsOnScale, none_or_on_scale, is_shown_by, shown}
use Rattle.plum_core.specs.Prediction.{shown_entries, last_value, IsBest, plus_factor}
use Rattle.plum_core.specs.Prediction.{IsPredictionOver, SCALE_LOW, SCALE_HIGH}
use Rattle.plum_text.specs.Fields.{FitsValue}
use Rattle.plum_replay.proofs.Lists.{All-at}

-- a test of order that passed
le_from : (a b : ℤ) → int_le a b ≡ true → a ≤ℤ b
le_from a b h = omega (arith, ints, h)

-- The value is none or on the scale.
abbrev MayBeOnScale : Option Tenths → Type 0
MayBeOnScale value = IfSome value IsOnScale

on_scale : (value : Option Tenths) → none_or_on_scale value ≡ true → MayBeOnScale value
on_scale None passed = tt
on_scale (Some t) passed =
    let parts = and_parts (int_le SCALE_LOW t.0) (int_le t.0 SCALE_HIGH) passed in
    (le_from _ _ parts.0, le_from _ _ parts.1)

-- the same of the value of the last of such entries
last_on_scale : (station : ℕ) (o : Option Entry) (es : List Entry)
    → IfSome o (λ e. MayBeOnScale e.value)
    → AllByRecursion (λ e. is_shown_by station e ≡ true) es
    → IfSome (last_or o es) (λ e. MayBeOnScale e.value)
last_on_scale station o [] before are = before
last_on_scale station o (e ∷ es) before are =
    last_on_scale station (Some e) es
    (on_scale e.value (and_parts (e.station.0 == station) (none_or_on_scale e.value) are.0).1)
    are.1

its_value : (o : Option Entry) → IfSome o (λ e. MayBeOnScale e.value)
    → MayBeOnScale (option_and_then (λ e. e.value) o)
its_value None is = tt
its_value (Some e) is = is

-- What a station shows is none or on the scale.
shown_on_scale : (stations : ℕ) (history : List Entry) (n : ℕ)
    → MayBeOnScale (shown stations history n)
shown_on_scale stations history n =
    let passes : Entry → Bool = λ e. is_shown_by n e in
    let es = shown_entries history n in
    let last =
    last_on_scale n None es tt
    (recursion_from_All (λ e. passes e ≡ true) es (filter_passes passes history)) in
    let value = its_value (last_or None es) last in
    elim (cases_Bool (nat_lt n stations)) [
      | inl is ↦ subst (λ b. MayBeOnScale (if b then last_value es else None)) (sym is) value
      | inr none ↦ subst (λ b. MayBeOnScale (if b then last_value es else None)) (sym none) tt
    ]

module _ (finds : FindsNear) (stations : List StationSite)
    (factors : AllByRecursion (λ s. IsFactor s.factor) stations) (history : List Entry) where
  -- The best of those that report, with a factor, fits.
  best_fits : (target : TargetSite) (best : Option Tenths) → IsFactor target.factor
      → IsBest stations (shown (length stations) history) target.at best
      → FitsValue (plus_factor target best)
  best_fits target None factor is = tt
  best_fits target (Some best) factor is =
      let n = is.0.0 in
      let value = is.0.1 in
      let reports = is.0.2 in
      let at = ((finds stations target.at n reports.site).0 reports.near).0 in
      let own =
      All-at (λ s. IsFactor s.factor) stations n reports.site factors at in
      let scale : IsOnScale value =
      subst MayBeOnScale reports.shows (shown_on_scale (length stations) history n) in
      omega (arith, ints, is.0.3, own.0, own.1, scale.0, scale.1, factor.0, factor.1)

  -- So does each prediction, one for each target.
  pub predictions_fit : (targets : List TargetSite) (answers : List (Option Tenths))
      → AllByRecursion (λ t. IsFactor t.factor) targets
      → AllZip (IsPredictionOver stations history) targets answers
      → AllByRecursion FitsValue answers
  predictions_fit [] [] are is = tt
  predictions_fit [] (answer ∷ answers) are is = absurd is
  predictions_fit (target ∷ targets) [] are is = absurd is
  predictions_fit (target ∷ targets) (answer ∷ answers) are is = (
    subst FitsValue (sym is.0.2) (best_fits target is.0.0 are.0 is.0.1),
    predictions_fit targets answers are.1 is.1,
  )
