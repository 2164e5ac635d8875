-- What holds of readings and their alerts.
use Rattle.std.specs.Prelude.{◌≡◌, ◌↔◌, List, [], ◌∷◌, Option, None}
use Rattle.plum_base.specs.declared.answers.Reading.{Reading}
use Rattle.plum_base.specs.declared.numbers.Tenths.{Tenths}
use Rattle.plum_base.specs.declared.rules.Alert.{Alert}
use Rattle.plum_base.specs.declared.rules.Rules.{Rules}
use Rattle.plum_alert.specs.Readings.{IsGreatest, greatest_of}
use Rattle.plum_alert.specs.Alerts.{AreAlerts, alerts_of}

-- Answers have one greatest, and the function gives it.
abbrev pub GreatestIs : Type 0
GreatestIs = (answers : List (Option Tenths)) (greatest : Option Tenths)
    → IsGreatest answers greatest ↔ (greatest ≡ greatest_of answers)

-- The first reading gives no alert.
abbrev pub FirstGivesNone : Type 0
FirstGivesNone = (rules : Rules) (reading : Reading)
    → alerts_of rules (reading ∷ []) ≡ None ∷ []

-- Readings have one list of alerts, and the function gives it.
abbrev pub OneListOfAlerts : Type 0
OneListOfAlerts = (rules : Rules) (readings : List Reading) (alerts : List (Option Alert))
    → AreAlerts rules readings alerts ↔ (alerts ≡ alerts_of rules readings)
