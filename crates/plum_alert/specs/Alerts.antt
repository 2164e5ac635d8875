-- The alerts of an area's readings, over the whole list of them (the project's own rules).
use Rattle.std.specs.Prelude.{◌≡◌, ℕ, ◌&&◌, nat_lt, List, [], ◌∷◌, ◌++◌, length, take, reverse}
use Rattle.std.specs.Prelude.{slice_get, Option, Some, None, if◌then◌else◌, option_map}
use Rattle.std.specs.Prelude.{option_and_then}
use Rattle.std.specs.List.{last_or, take_while}
use Rattle.plum_base.specs.declared.answers.Reading.{Reading}
use Rattle.plum_base.specs.declared.rules.Alert.{Alert}
use Rattle.plum_base.specs.declared.rules.Alert.TheVariants.{Raise, Upgrade, Cancel}
use Rattle.plum_base.specs.declared.rules.Class.{Class}
use Rattle.plum_base.specs.declared.rules.Rules.{Rules}
use Rattle.plum_alert.specs.Readings.{class_of_reading, is_below, is_above, reaches, without_none}

-- the class that stands from an alert on; nothing stands from a cancel on
abbrev pub class_of_alert : Alert → Option Class
class_of_alert (Raise class) = Some class
class_of_alert (Upgrade class) = Some class
class_of_alert Cancel = None

-- What stands after these: the class of the last alert; nothing where there is none or it is a
-- cancel.
abbrev pub standing : List (Option Alert) → Option Class
standing alerts = option_and_then class_of_alert (last_or None (without_none alerts))

-- the class of the last of these readings; none where there is none
abbrev pub class_before : List Reading → Option Class
class_before readings = option_and_then class_of_reading (last_or None readings)

-- how many readings in a row are below the cancel class, up to the last of these
abbrev pub calm_in_a_row : Rules → List Reading → ℕ
calm_in_a_row rules readings =
    length (take_while (λ r. is_below (class_of_reading r) rules.cancel) (reverse readings))

-- The alert that a reading gives after these earlier ones, or none, where an alert of this class
-- stands, or nothing. Raise: nothing stands, and it and the one before it both reach the raise
-- class. Upgrade: its class is above the one that stands. Cancel: it is the last of as many in a
-- row below the cancel class as the rules ask for.
abbrev pub alert_at : Rules → Option Class → List Reading → Reading → Option Alert
alert_at rules None earlier reading =
    if reaches (class_of_reading reading) rules.raise
    && reaches (class_before earlier) rules.raise
    then option_map Raise (class_of_reading reading) else None
alert_at rules (Some stands) earlier reading =
    if is_above (class_of_reading reading) stands
    then option_map Upgrade (class_of_reading reading)
    else if nat_lt (calm_in_a_row rules (earlier ++ reading ∷ [])) rules.calm
    then None else Some Cancel

-- These are the alerts of these readings: one or none for each, by what stands after those before
-- it.
pub record AreAlerts (rules : Rules) (readings : List Reading) (alerts : List (Option Alert))
    : Type 0 where
  pub one_each : length alerts ≡ length readings
  pub each : (n : ℕ) (reading : Reading) → slice_get readings n ≡ Some reading
      → slice_get alerts n
      ≡ Some (alert_at rules (standing (take n alerts)) (take n readings) reading)

-- the alerts of earlier readings, and then those of later ones
abbrev pub alerts_after : Rules → List Reading → List (Option Alert) → List Reading
    → List (Option Alert)
alerts_after rules earlier alerts [] = alerts
alerts_after rules earlier alerts (reading ∷ later) =
    alerts_after rules (earlier ++ reading ∷ [])
    (alerts ++ alert_at rules (standing alerts) earlier reading ∷ []) later

-- the alerts of these readings, as a function
abbrev pub alerts_of : Rules → List Reading → List (Option Alert)
alerts_of rules readings = alerts_after rules [] [] readings
