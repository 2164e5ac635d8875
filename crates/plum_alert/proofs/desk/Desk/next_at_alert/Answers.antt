use Rattle.std.proofs.Common.{sym, ◌∙◌, ap, subst, Some, None, false}
use Rattle.plum_base.specs.declared.rules.Alert.TheVariants.{Upgrade, Cancel}
use Rattle.plum_alert.specs.declared.desk.Standing.TheVariants.{Nothing, AlertAt}
use Rattle.plum_alert.specs.Desk.{IsStanding, IsWithin}
use Rattle.plum_alert.specs.Readings.{is_below}
use Rattle.plum_alert.proofs.Steps.{Tells-by_rules, above-some, above-none, next-upgrade}
use Rattle.plum_alert.proofs.Steps.{next-cancel, next-stays, up_to-calm}
use Rattle.plum_alert.proofs.desk.Desk.next_at_alert.Goals as goal

pub returns-in-Some : goal.returns-in-Some
returns-in-Some c = λ rules given reading desk is.
    let own = c.self.inside.rules in
    let higher = above-some c.args.class c.args.stands c.in-Some.class
    (sym c.in-Some.is ∙ c.above.ensures) in
    Tells-by_rules own rules given reading (AlertAt c.args.stands c.args.calm)
    (AlertAt c.in-Some.class c.calm_in_a_row-calm.result) (Some (Upgrade c.in-Some.class))
    (ap (λ d. d.rules) c.self.view_is ∙ desk.same_rules)
    (subst (IsStanding rules given) c.requires desk.stands)
    (λ alert. next-upgrade own given reading c.args.stands c.args.calm alert c.args.class is
    c.calm_in_a_row-calm.result c.calm_in_a_row-calm.ensures c.in-Some.class
    higher.0 higher.1)

pub returns-in-None : goal.returns-in-None
returns-in-None c = λ rules given reading desk is.
    let own = c.self.inside.rules in
    Tells-by_rules own rules given reading (AlertAt c.args.stands c.args.calm)
    (Nothing false) (Some Cancel)
    (ap (λ d. d.rules) c.self.view_is ∙ desk.same_rules)
    (subst (IsStanding rules given) c.requires desk.stands)
    (λ alert. next-cancel own given reading c.args.stands c.args.calm alert c.args.class is
    c.calm_in_a_row-calm.result c.calm_in_a_row-calm.ensures
    (above-none c.args.class c.args.stands (sym c.in-None.is ∙ c.above.ensures)) c.if-calm-self.true
    c.self.invariant.0.1 c.self.invariant.0.0)

pub returns-in-None-2 : goal.returns-in-None-2
returns-in-None-2 c = λ rules given reading desk is.
    let own = c.self.inside.rules in
    Tells-by_rules own rules given reading (AlertAt c.args.stands c.args.calm)
    (AlertAt c.args.stands c.calm_in_a_row-calm.result) None
    (ap (λ d. d.rules) c.self.view_is ∙ desk.same_rules)
    (subst (IsStanding rules given) c.requires desk.stands)
    (λ alert. next-stays own given reading c.args.stands c.args.calm alert c.args.class is
    c.calm_in_a_row-calm.result c.calm_in_a_row-calm.ensures
    (above-none c.args.class c.args.stands (sym c.in-None.is ∙ c.above.ensures))
    c.if-calm-self.false
    (up_to-calm (is_below c.args.class own.cancel) c.args.calm c.calm_in_a_row-calm.result own.calm
    c.calm_in_a_row-calm.ensures
    (subst (IsWithin own) (ap (λ d. d.standing) c.self.view_is ∙ c.requires) c.self.invariant.1).1))
