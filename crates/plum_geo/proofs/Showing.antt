-- What stations show after one more entry, kept by their numbers.
use Rattle.std.proofs.Common.{◌≡◌, ◌≢◌, ℕ, ◌<◌, true, false, List, [], ◌∷◌, ◌++◌, length}
use Rattle.std.proofs.Common.{set, Option, None, inl, inr, sym, ◌∙◌, ap, subst, arith, length-set}
use mathlib.Core.Path.{fun_ext}
use Rattle.std.proofs.lemmas.Bool.{and_from, and_left, and_right, cases_Bool, cases_eq, eq-eqb}
use Rattle.std.proofs.lemmas.Bool.{ne_eqb}
use Rattle.std.proofs.lemmas.Bool.{cases_lt, le-ltb}
use Rattle.std.proofs.lemmas.Grind.{get_or-set_at}
use Rattle.std.proofs.lemmas.List.{get_or-set_other, set_past}
use Rattle.std.specs.Prelude.{if◌then◌else◌, nat_lt, ◌≤◌, ◌==◌}
use Rattle.plum_base.specs.declared.entry.Entry.{Entry}
use Rattle.plum_base.specs.declared.numbers.Point.{Point}
use Rattle.plum_base.specs.declared.numbers.Tenths.{Tenths}
use Rattle.plum_base.specs.declared.sites.StationSite.{StationSite}
use Rattle.plum_geo.specs.Prediction.{none_or_on_scale, is_shown_by, shown, shown_entries}
use Rattle.plum_geo.specs.Prediction.{last_value, IsBest}
use Rattle.plum_geo.specs.Shown.{value_in, AreShown, shown_after}
use Rattle.plum_geo.proofs.LastValues.{shown-listed, last_value-push, last_value-push_other}

-- The best of what a table shows is the best over the entries.
pub IsBest-over : (values : List (Option Tenths)) (stations : List StationSite)
    (entries : List Entry) (place : Point) (best : Option Tenths)
    → AreShown values (length stations) entries → IsBest stations (value_in values) place best
    → IsBest stations (shown (length stations) entries) place best
IsBest-over values stations entries place best are =
    subst (λ (show : ℕ → Option Tenths). IsBest stations show place best) (fun_ext are.each)

module _ (values : List (Option Tenths)) (stations : ℕ) (entries : List Entry) (e : Entry)
    (before : AreShown values stations entries) where
  abbrev longer : List Entry
  longer = entries ++ e ∷ []

  -- A station that does not show the entry shows what it showed.
  shown-other : (n : ℕ) → is_shown_by n e ≡ false
      → shown stations longer n ≡ shown stations entries n
  shown-other n is =
      ap (λ value. if nat_lt n stations then value else None)
      (last_value-push_other (is_shown_by n) entries e is)

  -- An entry of a station that is there, with a value on the scale or none, is what it shows.
  pub AreShown-set : e.station.0 < stations → none_or_on_scale e.value ≡ true
      → AreShown (set values e.station.0 e.value) stations longer
  AreShown-set listed scale = record {
    count = length-set values e.station.0 e.value ∙ before.count;
    each = λ n. elim (cases_eq n e.station.0) [
      | inl same ↦
          let own : is_shown_by n e ≡ true =
          and_from _ _ (eq-eqb e.station.0 n (sym same)) scale in
          let below : n < stations = omega arith in
          let within : e.station.0 < length values = omega (arith, before.count) in
          get_or-set_at values e.station.0 n e.value None same within
          ∙ sym (shown-listed stations longer n below
          ∙ last_value-push (is_shown_by n) entries e own)
      | inr other ↦
          let another : e.station.0 ≢ n = λ same. other (sym same) in
          get_or-set_other values e.station.0 n e.value None other ∙ before.each n
          ∙ sym (shown-other n (and_left _ _ (ne_eqb e.station.0 n another)))
    ];
  }

  -- A station that is not there shows none.
  unlisted : (n : ℕ) → stations ≤ n → (history : List Entry) → shown stations history n ≡ None
  unlisted n past history =
      ap (λ b. if b then last_value (shown_entries history n) else None) (le-ltb n stations past)

  -- An entry of another station, or one that is off the scale, changes nothing.
  AreShown-same : ((n : ℕ) → n < stations → is_shown_by n e ≡ false)
      → AreShown values stations longer
  AreShown-same away = record {
    count = before.count;
    each = λ n. before.each n ∙ elim (cases_lt n stations) [
      | inl below ↦ sym (shown-other n (away n below))
      | inr past ↦ unlisted n past entries ∙ sym (unlisted n past longer)
    ];
  }

  -- Each entry is shown, or changes nothing.
  pub shown_after-push : AreShown (shown_after values e) stations longer
  shown_after-push = elim (cases_Bool (none_or_on_scale e.value)) [
    | inr off ↦
        rw off (AreShown-same (λ n below. and_right (e.station.0 == n) _ off))
    | inl scale ↦ elim (cases_lt e.station.0 stations) [
      | inl listed ↦ rw scale (AreShown-set listed scale)
      | inr past ↦
          let out : length values ≤ e.station.0 = omega (arith, before.count) in
          let away : (n : ℕ) → n < stations → is_shown_by n e ≡ false =
          λ n below. and_left _ _ (ne_eqb e.station.0 n (λ same. absurd (omega arith))) in
          rw (scale, set_past values e.station.0 e.value out) (AreShown-same away)
    ]
  ]
