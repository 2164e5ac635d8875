-- The alerts of readings, as a relation and as a function.
use Rattle.std.proofs.Common.{◌≡◌, ℕ, zero, suc, ◌<◌, ◌≤◌, List, [], ◌∷◌, ◌++◌, inl, inr, length}
use Rattle.std.proofs.Common.{take, Option, refl, sym, ◌∙◌, ap, subst, arith, length-append}
use Rattle.std.proofs.Math.Seq.{take-append_seam}
use Rattle.std.proofs.lemmas.List.{take-append-le, take_all}
use Rattle.std.specs.Prelude.{slice_get}
use Rattle.plum_base.specs.declared.answers.Reading.{Reading}
use Rattle.plum_base.specs.declared.rules.Alert.{Alert}
use Rattle.plum_base.specs.declared.rules.Rules.{Rules}
use Rattle.plum_alert.specs.Alerts.{standing, alert_at, AreAlerts, alerts_of}
use Rattle.plum_alert.proofs.Alerts.{alerts_of-push}
use Rattle.plum_base.proofs.Pushes.{by_push, slice_get-before, slice_get-after, slice_get-cases}
use Rattle.plum_alert.proofs.Lists.{slice_get-within, take-next}

module _ (rules : Rules) where
  -- Alerts of readings, and then that of one reading more, are those of all of them.
  AreAlerts-push : (readings : List Reading) (alerts : List (Option Alert)) (reading : Reading)
      → AreAlerts rules readings alerts
      → AreAlerts rules (readings ++ reading ∷ [])
      (alerts ++ alert_at rules (standing alerts) readings reading ∷ [])
  AreAlerts-push readings alerts reading are =
      let told = alert_at rules (standing alerts) readings reading in
      record {
        one_each =
            omega (
              arith,
              are.one_each,
              length-append alerts (told ∷ []),
              length-append readings (reading ∷ []),
            );
        each = λ n other is. elim (slice_get-cases readings reading n other is) [
          | inl (below, here) ↦
              let within : n < length alerts = omega (arith, are.one_each) in
              let before : n ≤ length alerts = omega arith in
              let before_too : n ≤ length readings = omega arith in
              rw (
                take-append-le n alerts (told ∷ []) before,
                take-append-le n readings (reading ∷ []) before_too,
              )
              (slice_get-before alerts told n within ∙ are.each n other here)
          | inr (end, here) ↦
              let end_too : n ≡ length alerts = end ∙ sym are.one_each in
              let front = ap (λ k. take k (alerts ++ told ∷ [])) end_too
              ∙ take-append_seam alerts (told ∷ []) in
              let given = ap (λ k. take k (readings ++ reading ∷ [])) end
              ∙ take-append_seam readings (reading ∷ []) in
              rw (front, given, ← here)
              (ap (λ k. slice_get (alerts ++ told ∷ []) k) end_too ∙ slice_get-after alerts told)
        ];
      }

  -- What the function gives are the alerts.
  AreAlerts-alerts_of : (readings : List Reading)
      → AreAlerts rules readings (alerts_of rules readings)
  AreAlerts-alerts_of = by_push (λ readings. AreAlerts rules readings (alerts_of rules readings))
      (record { one_each = refl; each = λ n reading is. absurd (cc) })
      (λ readings reading are.
      rw alerts_of-push (AreAlerts-push readings (alerts_of rules readings) reading are))

  module _ (readings : List Reading) (a b : List (Option Alert))
      (first : AreAlerts rules readings a) (second : AreAlerts rules readings b) where
    -- Two lists of alerts of the same readings are alike up to each position.
    same_front : (n : ℕ) → n ≤ length readings → take n a ≡ take n b
    same_front zero within = refl
    same_front (suc n) within =
        let next = slice_get-within readings n (omega arith) in
        take-next a n _ (first.each n next.0 next.1)
        ∙ ap (λ front. front ++ alert_at rules (standing front) (take n readings) next.0 ∷ [])
        (same_front n (omega arith))
        ∙ sym (take-next b n _ (second.each n next.0 next.1))

    -- So they are the same list.
    same_list : a ≡ b
    same_list =
        sym (take_all (length readings) a (omega (arith, first.one_each)))
        ∙ same_front (length readings) (omega arith)
        ∙ take_all (length readings) b (omega (arith, second.one_each))

-- Exactly what the function gives are the alerts.
pub alerts_of-exactly : (rules : Rules) (readings : List Reading) (alerts : List (Option Alert))
    → (AreAlerts rules readings alerts → alerts ≡ alerts_of rules readings)
    × (alerts ≡ alerts_of rules readings → AreAlerts rules readings alerts)
alerts_of-exactly rules readings alerts = (
  λ are.
      same_list rules readings alerts (alerts_of rules readings) are
      (AreAlerts-alerts_of rules readings),
  λ is. subst (AreAlerts rules readings) (sym is) (AreAlerts-alerts_of rules readings),
)
