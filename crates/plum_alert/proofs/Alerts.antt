-- The alerts of readings, one reading more.
use Rattle.std.proofs.Common.{◌≡◌, suc, Bool, true, false, List, [], ◌∷◌, ◌++◌, length, reverse}
use Rattle.std.proofs.Common.{Option, Some, None}
use Rattle.std.proofs.Common.{refl, sym, ◌∙◌, ap, append-nil, append_assoc}
use Rattle.std.proofs.lemmas.Grind.{flat_map-append}
use Rattle.std.proofs.lemmas.List.{reverse-append}
use Rattle.std.proofs.lemmas.List.Sums.{take_while-cons}
use Rattle.std.specs.Prelude.{if◌then◌else◌, option_and_then, option_to_list}
use Rattle.std.specs.List.{last_or, take_while}
use Rattle.plum_base.specs.declared.answers.Reading.{Reading}
use Rattle.plum_base.specs.declared.rules.Alert.{Alert}
use Rattle.plum_base.specs.declared.rules.Rules.{Rules}
use Rattle.plum_alert.specs.Readings.{class_of_reading, is_below, without_none}
use Rattle.plum_alert.specs.Alerts.{class_of_alert, standing, class_before, calm_in_a_row, alert_at}
use Rattle.plum_alert.specs.Alerts.{alerts_after, alerts_of}
use Rattle.plum_base.proofs.Pushes.{last_or-push}

-- those that are not none, one none more
without_none-none : {X : Type 0} (xs : List (Option X))
    → without_none (xs ++ None ∷ []) ≡ without_none xs
without_none-none xs =
    flat_map-append option_to_list xs (None ∷ []) ∙ append-nil (without_none xs)

-- and one more that is not none
without_none-some : {X : Type 0} (xs : List (Option X)) (x : X)
    → without_none (xs ++ Some x ∷ []) ≡ without_none xs ++ x ∷ []
without_none-some xs x = flat_map-append option_to_list xs (Some x ∷ [])

-- No alert leaves what stands.
pub standing-none : (alerts : List (Option Alert))
    → standing (alerts ++ None ∷ []) ≡ standing alerts
standing-none alerts =
    ap (λ told. option_and_then class_of_alert (last_or None told)) (without_none-none alerts)

-- From an alert on its class stands.
pub standing-some : (alerts : List (Option Alert)) (alert : Alert)
    → standing (alerts ++ Some alert ∷ []) ≡ class_of_alert alert
standing-some alerts alert =
    ap (λ told. option_and_then class_of_alert (last_or None told)) (without_none-some alerts alert)
    ∙ ap (λ last. option_and_then class_of_alert last)
    (last_or-push None (without_none alerts) alert)

-- the class of the last reading, one reading more
pub class_before-push : (given : List Reading) (reading : Reading)
    → class_before (given ++ reading ∷ []) ≡ class_of_reading reading
class_before-push given reading =
    ap (λ last. option_and_then class_of_reading last) (last_or-push None given reading)

-- the length of a choice between one element more and none
length-if : {X : Type 0} (b : Bool) (x : X) (xs : List X)
    → length (if b then x ∷ xs else []) ≡ (if b then suc (length xs) else 0)
length-if true x xs = refl
length-if false x xs = refl

-- how many are calm in a row, one reading more
pub calm_in_a_row-push : (rules : Rules) (given : List Reading) (reading : Reading)
    → calm_in_a_row rules (given ++ reading ∷ [])
    ≡ (if is_below (class_of_reading reading) rules.cancel
    then suc (calm_in_a_row rules given) else 0)
calm_in_a_row-push rules given reading =
    let is_calm = λ (r : Reading). is_below (class_of_reading r) rules.cancel in
    rw (reverse-append given (reading ∷ []), take_while-cons is_calm reading (reverse given))
    (length-if (is_calm reading) reading (take_while is_calm (reverse given)))

-- the alerts of earlier readings and then of later ones, one later reading more
alerts_after-push : (rules : Rules) (earlier : List Reading) (alerts : List (Option Alert))
    (later : List Reading) (reading : Reading)
    → alerts_after rules earlier alerts (later ++ reading ∷ [])
    ≡ alerts_after rules earlier alerts later
    ++ alert_at rules (standing (alerts_after rules earlier alerts later)) (earlier ++ later)
    reading ∷ []
alerts_after-push rules earlier alerts [] reading =
    ap (λ before. alerts ++ alert_at rules (standing alerts) before reading ∷ [])
    (sym (append-nil earlier))
alerts_after-push rules earlier alerts (next ∷ later) reading =
    let told = alerts ++ alert_at rules (standing alerts) earlier next ∷ [] in
    let all = alerts_after rules (earlier ++ next ∷ []) told later in
    alerts_after-push rules (earlier ++ next ∷ []) told later reading
    ∙ ap (λ before. all ++ alert_at rules (standing all) before reading ∷ [])
    (append_assoc earlier (next ∷ []) later)

-- the alerts of readings, one reading more
pub alerts_of-push : (rules : Rules) (given : List Reading) (reading : Reading)
    → alerts_of rules (given ++ reading ∷ [])
    ≡ alerts_of rules given
    ++ alert_at rules (standing (alerts_of rules given)) given reading ∷ []
alerts_of-push rules given reading = alerts_after-push rules [] [] given reading
