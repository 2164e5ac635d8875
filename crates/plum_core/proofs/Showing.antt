-- What a station shows in a valid history is its value there.
use Rattle.std.proofs.Common.{◌≡◌, ℕ, Bool, true, false, ◌&&◌, List, [], ◌∷◌, ◌++◌, map}
use Rattle.std.proofs.Common.{Option, Some, None, inl, inr, refl, sym, ◌∙◌, ap, subst, arith}
use Rattle.std.proofs.Common.{eqb-true, ltb-false}
use Rattle.std.proofs.lemmas.Bool.{and_from, cases_Bool}
use Rattle.std.proofs.lemmas.Int.{ints}
use Rattle.std.proofs.lemmas.List.{map-append}
use Rattle.std.specs.Prelude.{◌==◌, nat_lt, if◌then◌else◌, int_le, ℤ, pos, ◌+ℤ◌, ◌≤ℤ◌}
use Rattle.plum_base.specs.declared.entry.Entry.{Entry}
use Rattle.plum_base.specs.declared.numbers.Tenths.{Tenths}
use Rattle.plum_base.specs.declared.setup.Setup.{Setup}
use Rattle.plum_base.specs.Levels.{LevelsView, IsLevelTable}
use Rattle.plum_base.proofs.Pushes.{by_push}
use Rattle.plum_seq.specs.Keys.{of_station, with_fresh}
use Rattle.plum_engine.specs.Engine.{IsValueOf}
use Rattle.plum_engine.specs.Value.{IsValue}
use Rattle.plum_geo.specs.Prediction.{none_or_on_scale, is_shown_by, shown_entries}
use Rattle.plum_geo.specs.Prediction.{last_value, shown, SCALE_LOW, SCALE_HIGH}
use Rattle.plum_geo.proofs.LastValues.{last_value-push, last_value-push_other}
use Rattle.plum_core.specs.History.{packet_of, packets_of, IsEntryAfter, IsValidHistory}
use Rattle.plum_core.proofs.Joining.{IsValidHistory-front}
use Rattle.plum_seq.proofs.Stations.{of_station-other}

-- a test of order that holds
le_yes : (a b : ℤ) → a ≤ℤ b → int_le a b ≡ true
le_yes a b h = elim (int_le a b) as (λ v. int_le a b ≡ v → v ≡ true) [
  | true ↦ λ _. refl
  | false ↦ λ no. absurd (omega (arith, ints, no, h))
] refl

-- what a table gives is on the scale
on_scale : (table : LevelsView) (amplitudes : List ℕ) (value : Option Tenths) → IsLevelTable table
    → IsValue table amplitudes value → none_or_on_scale value ≡ true
on_scale table amplitudes None is_table is = refl
on_scale table amplitudes (Some v) is_table is =
    let sum : v.0 ≡ table.base.0 +ℤ pos is.0 = ap (λ (t : Tenths). t.0) is.2 in
    let low : SCALE_LOW ≤ℤ v.0 = omega (arith, ints, is_table.base.0, sum) in
    let high : v.0 ≤ℤ SCALE_HIGH =
    omega (arith, ints, is_table.base.1, is_table.thresholds.few, is.1.1.listed, sum) in
    and_from _ _ (le_yes _ _ low) (le_yes _ _ high)

module _ (setup : Setup) (stations s : ℕ) (is_table : IsLevelTable setup.levels) where
  -- what the station's last entry says is its value
  abbrev Shows : List Entry → Type 0
  Shows history = IsValueOf setup (packets_of s history) (last_value (shown_entries history s))

  -- an entry that the station shows
  abbrev passes : Entry → Bool
  passes f = is_shown_by s f

  module _ (history : List Entry) (e : Entry) (before : Shows history)
      (right : IsEntryAfter setup stations history e) where
    -- one entry more
    abbrev longer : List Entry
    longer = history ++ e ∷ []

    -- one more entry of the station
    own : (e.station.0 == s) ≡ true → Shows longer
    own is =
        let scale : none_or_on_scale e.value ≡ true =
        on_scale setup.levels _ e.value is_table right.value in
        let value : last_value (shown_entries longer s) ≡ e.value =
        last_value-push passes history e (and_from _ _ is scale) in
        let here : IsValueOf setup (packets_of s longer) e.value =
        subst (λ n. IsValueOf setup (packets_of n longer) e.value) (eqb-true e.station.0 s is)
        right.value in
        subst (IsValueOf setup (packets_of s longer)) (sym value) here

    -- one more of another
    other : (e.station.0 == s) ≡ false → Shows longer
    other is =
        let value : last_value (shown_entries longer s) ≡ last_value (shown_entries history s) =
        last_value-push_other passes history e (ap (λ b. b && none_or_on_scale e.value) is) in
        let same : packets_of s longer ≡ packets_of s history =
        ap (of_station s) (map-append packet_of history (e ∷ []))
        ∙ of_station-other s (map packet_of history) (packet_of e) is in
        subst (IsValueOf setup (packets_of s longer)) (sym value)
        (subst (λ ps. IsValueOf setup ps (last_value (shown_entries history s))) (sym same) before)

  -- in each valid history
  Shows-valid : (history : List Entry) → IsValidHistory setup stations history → Shows history
  unfolding with_fresh
  Shows-valid =
      by_push (λ history. IsValidHistory setup stations history → Shows history)
      (λ _. omega arith)
      (λ history e before valid.
      let front = IsValidHistory-front setup stations history (e ∷ []) valid in
      let right : IsEntryAfter setup stations history e = valid history e [] refl in
      elim (cases_Bool (e.station.0 == s)) [
        | inl is ↦ own history e (before front) right is
        | inr is ↦ other history e (before front) right is
      ])

  -- A station that is not listed has no entry.
  nothing : nat_lt s stations ≡ false → (history : List Entry)
      → IsValidHistory setup stations history → last_value (shown_entries history s) ≡ None
  nothing unlisted =
      by_push
      (λ history. IsValidHistory setup stations history
      → last_value (shown_entries history s) ≡ None) (λ _. refl)
      (λ history e before valid.
      let front = IsValidHistory-front setup stations history (e ∷ []) valid in
      let right : IsEntryAfter setup stations history e = valid history e [] refl in
      elim (cases_Bool (e.station.0 == s)) [
        | inl is ↦ absurd (
            let same = eqb-true e.station.0 s is in
            let most = ltb-false s stations unlisted in
            omega (arith, same, most, right.listed))
        | inr is ↦ last_value-push_other passes history e
            (ap (λ b. b && none_or_on_scale e.value) is) ∙ before front
      ])

  -- what a station shows is what its last entry says, where it has one
  shown-last : (history : List Entry) → IsValidHistory setup stations history
      → shown stations history s ≡ last_value (shown_entries history s)
  shown-last history valid =
      let Shown : Bool → Option Tenths = λ b.
      if b then last_value (shown_entries history s) else None in
      elim (cases_Bool (nat_lt s stations)) [
        | inl listed ↦ ap Shown listed
        | inr unlisted ↦ ap Shown unlisted ∙ sym (nothing unlisted history valid)
      ]

  -- Each station shows its value.
  pub shows_its_value : (history : List Entry) → IsValidHistory setup stations history
      → IsValueOf setup (packets_of s history) (shown stations history s)
  shows_its_value history valid =
      subst (IsValueOf setup (packets_of s history)) (sym (shown-last history valid))
      (Shows-valid history valid)
