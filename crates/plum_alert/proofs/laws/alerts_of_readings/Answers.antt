use Rattle.std.proofs.Common.{None, [], ◌∷◌, ap, if◌then◌else◌}
use Rattle.std.proofs.Math.Bool.{and-false}
use Rattle.std.specs.Prelude.{option_map}
use Rattle.plum_base.specs.declared.rules.Alert.TheVariants.{Raise}
use Rattle.plum_alert.specs.Readings.{class_of_reading, reaches}
use Rattle.plum_alert.proofs.Greatest.{greatest_of-exactly}
use Rattle.plum_alert.proofs.OneList.{alerts_of-exactly}
use Rattle.plum_alert.proofs.laws.alerts_of_readings.Goals as goal

pub returns-clause-greatest : goal.returns-clause-greatest
returns-clause-greatest c = greatest_of-exactly

pub returns-clause-alerts : goal.returns-clause-alerts
returns-clause-alerts c = alerts_of-exactly

pub returns-clause-first : goal.returns-clause-first
returns-clause-first c = λ rules reading.
    let class = class_of_reading reading in
    ap (λ b. (if b then option_map Raise class else None) ∷ [])
    (and-false (reaches class rules.raise))
