-- What a station shows after one more entry.
use Rattle.std.proofs.Common.{◌≡◌, ℕ, ◌<◌, Bool, true, false, List, [], ◌∷◌, ◌++◌, filter}
use Rattle.std.proofs.Common.{None, ◌∙◌, ap, append-nil}
use Rattle.std.proofs.lemmas.Bool.{lt-ltb}
use Rattle.std.specs.Option.{option_and_then}
use Rattle.std.specs.Prelude.{if◌then◌else◌}
use Rattle.plum_base.specs.declared.entry.Entry.{Entry}
use Rattle.plum_base.proofs.Pushes.{last_or-push, filter_more}
use Rattle.plum_geo.specs.Prediction.{shown_entries, last_value, shown}

-- A listed station shows the value of its last entry.
pub shown-listed : (stations : ℕ) (history : List Entry) (s : ℕ) → s < stations
    → shown stations history s ≡ last_value (shown_entries history s)
shown-listed stations history s listed =
    ap (λ b. if b then last_value (shown_entries history s) else None) (lt-ltb s stations listed)

module _ (passes : Entry → Bool) (es : List Entry) (e : Entry) where
  -- one that passes
  pub last_value-push : passes e ≡ true → last_value (filter passes (es ++ e ∷ [])) ≡ e.value
  last_value-push is =
      ap last_value (filter_more passes es e true is)
      ∙ ap (option_and_then (λ f. f.value)) (last_or-push None (filter passes es) e)

  -- one that does not
  pub last_value-push_other : passes e ≡ false
      → last_value (filter passes (es ++ e ∷ [])) ≡ last_value (filter passes es)
  last_value-push_other is =
      ap last_value (filter_more passes es e false is ∙ append-nil (filter passes es))
