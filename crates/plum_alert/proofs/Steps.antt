-- A desk at one reading more.
use Rattle.std.proofs.Common.{◌≡◌, ◌≢◌, ℕ, suc, add-one, ◌+◌, ◌≤◌, Bool, true, false, ◌&&◌, List}
use Rattle.std.proofs.Common.{[], ◌∷◌, ◌++◌, ◌⊎◌}
use Rattle.std.proofs.Common.{Option, Some, None, refl, sym, ◌∙◌, ap, subst, arith, inl, inr}
use Rattle.std.proofs.lemmas.Bool.{and_parts}
use Rattle.std.proofs.lemmas.Bool.Decides.{nat_tests}
use Rattle.std.specs.Prelude.{if◌then◌else◌}
use Rattle.plum_base.specs.declared.answers.Reading.{Reading}
use Rattle.plum_base.specs.declared.rules.Alert.{Alert}
use Rattle.plum_base.specs.declared.rules.Alert.TheVariants.{Raise, Upgrade, Cancel}
use Rattle.plum_base.specs.declared.rules.Class.{Class}
use Rattle.plum_base.specs.declared.rules.Rules.{Rules}
use Rattle.plum_base.specs.Setup.{rank_of}
use Rattle.plum_alert.specs.declared.desk.Standing.{Standing}
use Rattle.plum_alert.specs.declared.desk.Standing.TheVariants.{Nothing, AlertAt}
use Rattle.plum_alert.specs.Readings.{class_of_reading, is_below, is_above, reaches}
use Rattle.plum_alert.specs.Alerts.{standing, class_before, calm_in_a_row, alert_at, alerts_of}
use Rattle.plum_alert.specs.Desk.{IsStanding, Tells}
use Rattle.plum_alert.proofs.Alerts.{standing-none, standing-some, class_before-push}
use Rattle.plum_alert.proofs.Alerts.{calm_in_a_row-push, alerts_of-push}

-- What a desk tells by its own rules it tells by the rules that these are.
pub Tells-by_rules : (own rules : Rules) (given : List Reading) (reading : Reading)
    (before after : Standing) (told : Option Alert) → own ≡ rules → IsStanding rules given before
    → (IsStanding own given before
    → Tells own given reading (record { rules = own; standing = after }) told)
    → Tells rules given reading (record { rules = own; standing = after }) told
Tells-by_rules own rules given reading before after told same is step =
    subst (λ r. Tells r given reading (record { rules = own; standing = after }) told) same
    (step (subst (λ r. IsStanding r given before) (sym same) is))

module _ (rules : Rules) (given : List Reading) (reading : Reading) (told : Option Alert)
    (stood : Option Class) (stood-is : standing (alerts_of rules given) ≡ stood)
    (told-is : alert_at rules stood given reading ≡ told) where
  -- the alerts, with the one that is told
  alerts-with : alerts_of rules (given ++ reading ∷ []) ≡ alerts_of rules given ++ told ∷ []
  alerts-with =
      alerts_of-push rules given reading
      ∙ ap (λ stands. alerts_of rules given ++ alert_at rules stands given reading ∷ []) stood-is
      ∙ ap (λ alert. alerts_of rules given ++ alert ∷ []) told-is

  -- Nothing stands after it.
  Tells-nothing : (reached : Bool) → standing (alerts_of rules given ++ told ∷ []) ≡ None
      → reached ≡ reaches (class_of_reading reading) rules.raise
      → Tells rules given reading (record { rules = rules; standing = Nothing reached }) told
  Tells-nothing reached none reached-is = record {
    stands = record {
      same_rules = refl;
      stands = (
        ap standing alerts-with ∙ none,
        reached-is
            ∙ ap (λ class. reaches class rules.raise) (sym (class_before-push given reading)),
      );
    };
    alert = alerts-with;
  }

  -- An alert stands after it.
  Tells-alert : (class : Class) (calm : ℕ)
      → standing (alerts_of rules given ++ told ∷ []) ≡ Some class
      → calm ≡ calm_in_a_row rules (given ++ reading ∷ [])
      → Tells rules given reading (record { rules = rules; standing = AlertAt class calm }) told
  Tells-alert class calm some calm-is = record {
    stands = record {
      same_rules = refl;
      stands = (ap standing alerts-with ∙ some, calm-is);
    };
    alert = alerts-with;
  }

-- A class that reaches the raise class is not below the cancel class.
not_calm-reaches : (class : Option Class) (rules : Rules) → reaches class rules.raise ≡ true
    → rank_of rules.cancel ≤ rank_of rules.raise → is_below class rules.cancel ≡ false
not_calm-reaches None rules reaches-is cancel-in = sym reaches-is
not_calm-reaches (Some class) rules reaches-is cancel-in = grind (arith, nat_tests)

-- A class below the cancel class does not reach the raise class.
not_reaches-calm : (class : Option Class) (rules : Rules) → is_below class rules.cancel ≡ true
    → rank_of rules.cancel ≤ rank_of rules.raise → reaches class rules.raise ≡ false
not_reaches-calm None rules below cancel-in = refl
not_reaches-calm (Some class) rules below cancel-in = grind (arith, nat_tests)

-- The count of calm readings in a row grows only by a calm one.
calm_one : (b : Bool) (calm next : ℕ) → next ≡ (if b then calm + 1 else 0) → 1 ≤ next → b ≡ true
calm_one true calm next next-is some = refl
calm_one false calm next next-is some = absurd (omega arith)

-- a class that was let through by a test
if-some : (b : Bool) (own : Option Class) (class : Class) → Some class ≡ (if b then own else None)
    → (own ≡ Some class) × (b ≡ true)
if-some true own class is = (sym is, refl)
if-some false own class is = absurd (cc)

-- and none
if-none : (b : Bool) (own : Option Class) → None ≡ (if b then own else None)
    → (b ≡ false) ⊎ (own ≡ None)
if-none true own is = inr (sym is)
if-none false own is = inl refl

-- a class that is above another
pub up_to-calm : (b : Bool) (calm next most : ℕ) → next ≡ (if b then calm + 1 else 0)
    → suc calm ≤ most → next ≤ most
up_to-calm true calm next most is below = omega arith
up_to-calm false calm next most is below = omega arith

pub above-some : (own : Option Class) (stands above : Class)
    → Some above ≡ (if is_above own stands then own else None)
    → (own ≡ Some above) × (is_above (Some above) stands ≡ true)
above-some own stands above is =
    let found = if-some (is_above own stands) own above is in
    (found.0, ap (λ class. is_above class stands) (sym found.0) ∙ found.1)

-- and one that is not
pub above-none : (own : Option Class) (stands : Class)
    → None ≡ (if is_above own stands then own else None) → is_above own stands ≡ false
above-none own stands is = elim (if-none (is_above own stands) own is) [
  | inl not_above ↦ not_above
  | inr none ↦ ap (λ class. is_above class stands) none
]

-- a class that raises an alert
pub raised-some : (own : Option Class) (raise class : Class) (reached : Bool)
    → Some class ≡ (if reaches own raise && reached then own else None)
    → (own ≡ Some class) × ((reaches (Some class) raise && reached) ≡ true)
raised-some own raise class reached is =
    let found = if-some (reaches own raise && reached) own class is in
    (found.0, ap (λ c. reaches c raise && reached) (sym found.0) ∙ found.1)

-- and one that does not
pub raised-none : (own : Option Class) (raise : Class) (reached : Bool)
    → None ≡ (if reaches own raise && reached then own else None)
    → (reaches own raise && reached) ≡ false
raised-none own raise reached is = elim (if-none (reaches own raise && reached) own is) [
  | inl not_both ↦ not_both
  | inr none ↦ ap (λ c. reaches c raise && reached) none
]

module _ (rules : Rules) (given : List Reading) (reading : Reading) where
  -- how many are calm in a row with the reading, by its class
  calm-next : (class : Option Class) (calm next : ℕ) → class ≡ class_of_reading reading
      → calm ≡ calm_in_a_row rules given
      → next ≡ (if is_below class rules.cancel then calm + 1 else 0)
      → next ≡ calm_in_a_row rules (given ++ reading ∷ [])
  calm-next class calm next class-is calm-is next-is =
      next-is
      ∙ ap (λ own. if is_below own rules.cancel then calm + 1 else 0) class-is
      ∙ ap (λ n. if is_below (class_of_reading reading) rules.cancel then n else 0)
      (add-one calm ∙ ap suc calm-is)
      ∙ sym (calm_in_a_row-push rules given reading)

  -- where nothing stands
  module _ (reached : Bool) (quiet : IsStanding rules given (Nothing reached)) where
    -- Two readings that reach the raise class raise an alert.
    pub next-raise : (class : Class) → Some class ≡ class_of_reading reading
        → (reaches (Some class) rules.raise && reached) ≡ true
        → rank_of rules.cancel ≤ rank_of rules.raise
        → Tells rules given reading (record { rules = rules; standing = AlertAt class 0 })
        (Some (Raise class))
    next-raise class class-is raises cancel-in =
        let reaching = (and_parts _ reached raises).0 in
        let not_calm = not_calm-reaches (Some class) rules reaching cancel-in in
        let both : (reaches (Some class) rules.raise && reaches (class_before given) rules.raise)
        ≡ true = rw (← quiet.1) raises in
        Tells-alert rules given reading (Some (Raise class)) None quiet.0 (rw (← class-is, both))
        class 0 (standing-some (alerts_of rules given) (Raise class))
        (sym (calm_in_a_row-push rules given reading ∙ rw (← class-is, not_calm)))

    -- Any other reading raises none.
    pub next-quiet : (class : Option Class) (reaching : Bool) → class ≡ class_of_reading reading
        → reaching ≡ reaches class rules.raise → (reaches class rules.raise && reached) ≡ false
        → Tells rules given reading (record { rules = rules; standing = Nothing reaching }) None
    next-quiet class reaching class-is reaches-is not_both =
        let neither : (reaches class rules.raise && reaches (class_before given) rules.raise)
        ≡ false = rw (← quiet.1) not_both in
        Tells-nothing rules given reading None None quiet.0 (rw (← class-is, neither))
        reaching (standing-none (alerts_of rules given) ∙ quiet.0)
        (reaches-is ∙ ap (λ own. reaches own rules.raise) class-is)

  -- where an alert stands
  module _ (stands : Class) (calm : ℕ) (alert : IsStanding rules given (AlertAt stands calm))
      (class : Option Class) (class-is : class ≡ class_of_reading reading) (next : ℕ)
      (next-is : next ≡ (if is_below class rules.cancel then calm + 1 else 0)) where
    -- A reading above it upgrades it.
    pub next-upgrade : (above : Class) → class ≡ Some above → is_above (Some above) stands ≡ true
        → Tells rules given reading (record { rules = rules; standing = AlertAt above next })
        (Some (Upgrade above))
    next-upgrade above above-is is =
        Tells-alert rules given reading (Some (Upgrade above)) (Some stands) alert.0
        (rw (← class-is, above-is, is))
        above next (standing-some (alerts_of rules given) (Upgrade above))
        (calm-next class calm next class-is alert.1 next-is)

    -- The last of as many calm readings in a row as the rules ask for cancels it.
    pub next-cancel : is_above class stands ≡ false → next ≡ rules.calm → 1 ≤ rules.calm
        → rank_of rules.cancel ≤ rank_of rules.raise
        → Tells rules given reading (record { rules = rules; standing = Nothing false })
        (Some Cancel)
    next-cancel not_above next-full calm-in cancel-in =
        Tells-nothing rules given reading (Some Cancel) (Some stands) alert.0
        (rw (← class-is, not_above, ← calm-next class calm next class-is alert.1 next-is)
        (grind (arith, nat_tests)))
        false (standing-some (alerts_of rules given) Cancel)
        (rw (← class-is) (sym (not_reaches-calm class rules
        (calm_one (is_below class rules.cancel) calm next next-is (omega arith)) cancel-in)))

    -- Any other leaves it.
    pub next-stays : is_above class stands ≡ false → next ≢ rules.calm → next ≤ rules.calm
        → Tells rules given reading (record { rules = rules; standing = AlertAt stands next }) None
    next-stays not_above not_full within =
        Tells-alert rules given reading None (Some stands) alert.0
        (rw (← class-is, not_above, ← calm-next class calm next class-is alert.1 next-is)
        (grind (arith, nat_tests)))
        stands next (standing-none (alerts_of rules given) ∙ alert.0)
        (calm-next class calm next class-is alert.1 next-is)
