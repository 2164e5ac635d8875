-- What stations were last set to, after one was set.
use Rattle.std.proofs.Common.{◌≡◌, ◌≢◌, ℕ, ◌<◌, Bool, true, false, List, [], ◌∷◌, ◌++◌}
use Rattle.std.proofs.Common.{length}
use Rattle.std.proofs.Common.{filter, None, inl, inr, sym, ◌∙◌, ap, arith}
use Rattle.std.proofs.Common.{append-nil, length-set}
use Rattle.std.proofs.lemmas.Bool.{cases_eq, eq-eqb, ne_eqb}
use Rattle.std.proofs.lemmas.Grind.{get_or-set_at}
use Rattle.std.proofs.lemmas.List.{get_or-set_other}
use Rattle.std.specs.List.{last_or}
use Rattle.std.specs.Option.{option_and_then}
use Rattle.std.specs.Prelude.{◌==◌}
use Rattle.plum_base.specs.declared.sites.StationSite.{StationSite}
use Rattle.plum_base.proofs.Pushes.{last_or-push, filter_more}
use Rattle.plum_pyramid.specs.Pyramid.{PyramidView, Setting, StandsFor, last_set, pyramid_after}

module _ (settings : List Setting) (s : Setting) (n : ℕ) where
  abbrev of : Setting → Bool
  of other = other.station.0 == n

  last_set-own : s.station.0 ≡ n → last_set (settings ++ s ∷ []) n ≡ s.value
  last_set-own is =
      ap (λ (ss : List Setting). option_and_then (λ s. s.value) (last_or None ss))
      (filter_more of settings s true (eq-eqb s.station.0 n is))
      ∙ ap (option_and_then (λ s. s.value)) (last_or-push None (filter of settings) s)

  last_set-other : s.station.0 ≢ n → last_set (settings ++ s ∷ []) n ≡ last_set settings n
  last_set-other other =
      ap (λ (ss : List Setting). option_and_then (λ s. s.value) (last_or None ss))
      (filter_more of settings s false (ne_eqb s.station.0 n other)
      ∙ append-nil (filter of settings))

-- The pyramid after a station was set stands for all sets.
pub StandsFor-set : (pyramid : PyramidView) (stations : List StationSite)
    (settings : List Setting) (s : Setting) → s.station.0 < length stations
    → StandsFor pyramid stations settings
    → StandsFor (pyramid_after pyramid s) stations (settings ++ s ∷ [])
StandsFor-set pyramid stations settings s listed stands = record {
  same_stations = stands.same_stations;
  count = length-set pyramid.values s.station.0 s.value ∙ stands.count;
  each = λ n. elim (cases_eq n s.station.0) [
    | inl same ↦
        let count = stands.count in
        let within : s.station.0 < length pyramid.values = omega arith in
        get_or-set_at pyramid.values s.station.0 n s.value None same within
        ∙ sym (last_set-own settings s n (sym same))
    | inr other ↦
        let away : s.station.0 ≢ n = λ same. other (sym same) in
        get_or-set_other pyramid.values s.station.0 n s.value None other
        ∙ stands.each n ∙ sym (last_set-other settings s n away)
  ];
}
