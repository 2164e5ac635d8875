-- A desk, and the readings that it was given.
use Rattle.std.specs.Prelude.{◌≡◌, ◌<◌, ◌≤◌, List, [], ◌∷◌, ◌++◌, Option, Some, None}
use Rattle.plum_base.specs.declared.answers.Reading.{Reading}
use Rattle.plum_base.specs.declared.rules.Alert.{Alert}
use Rattle.plum_base.specs.declared.rules.Rules.{Rules}
use Rattle.plum_base.specs.Setup.{rank_of}
use Rattle.plum_alert.specs.declared.desk.Standing.{Standing}
use Rattle.plum_alert.specs.declared.desk.Standing.TheVariants.{Nothing, AlertAt}
use Rattle.plum_alert.specs.Readings.{reaches}
use Rattle.plum_alert.specs.Alerts.{standing, class_before, calm_in_a_row, alerts_of}

-- what a desk shows: its rules, and what stands
pub record DeskView : Type 0 where
  pub rules : Rules
  pub standing : Standing

-- An alert stands at the raise class or above, and fewer readings in a row are calm than cancel it.
abbrev pub IsWithin : Rules → Standing → Type 0
IsWithin rules (Nothing reached) = Unit {0}
IsWithin rules (AlertAt class calm) = (rank_of rules.raise ≤ rank_of class) × (calm < rules.calm)

-- This stands after these readings.
abbrev pub IsStanding : Rules → List Reading → Standing → Type 0
IsStanding rules given (Nothing reached) =
    (standing (alerts_of rules given) ≡ None)
    × (reached ≡ reaches (class_before given) rules.raise)
IsStanding rules given (AlertAt class calm) =
    (standing (alerts_of rules given) ≡ Some class) × (calm ≡ calm_in_a_row rules given)

-- A desk of these rules was given these readings since it was made.
pub record StandsFor (desk : DeskView) (rules : Rules) (given : List Reading) : Type 0 where
  pub same_rules : desk.rules ≡ rules
  pub stands : IsStanding rules given desk.standing

-- At the next reading after these a desk told this alert, or none, and is now so.
pub record Tells (rules : Rules) (given : List Reading) (reading : Reading) (desk : DeskView)
    (told : Option Alert) : Type 0 where
  pub stands : StandsFor desk rules (given ++ reading ∷ [])
  pub alert : alerts_of rules (given ++ reading ∷ []) ≡ alerts_of rules given ++ told ∷ []
