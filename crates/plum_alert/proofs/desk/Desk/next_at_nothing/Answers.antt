use Rattle.std.proofs.Common.{sym, ◌∙◌, ap, subst, Some, None}
use Rattle.plum_base.specs.declared.rules.Alert.TheVariants.{Raise}
use Rattle.plum_alert.specs.declared.desk.Standing.TheVariants.{Nothing, AlertAt}
use Rattle.plum_alert.specs.Desk.{IsStanding}
use Rattle.plum_alert.proofs.Steps.{Tells-by_rules, raised-some, raised-none, next-raise}
use Rattle.plum_alert.proofs.Steps.{next-quiet}
use Rattle.plum_alert.proofs.desk.Desk.next_at_nothing.Goals as goal

pub returns-in-Some : goal.returns-in-Some
returns-in-Some c = λ rules given reading desk is.
    let own = c.self.inside.rules in
    let raises = raised-some c.args.class own.raise c.in-Some.class c.args.reached
    (sym c.in-Some.is ∙ c.raised.ensures) in
    Tells-by_rules own rules given reading (Nothing c.args.reached) (AlertAt c.in-Some.class 0)
    (Some (Raise c.in-Some.class)) (ap (λ d. d.rules) c.self.view_is ∙ desk.same_rules)
    (subst (IsStanding rules given) c.requires desk.stands)
    (λ quiet. next-raise own given reading c.args.reached quiet c.in-Some.class
    (sym raises.0 ∙ is) raises.1 c.self.invariant.0.0)

pub returns-in-None : goal.returns-in-None
returns-in-None c = λ rules given reading desk is.
    let own = c.self.inside.rules in
    Tells-by_rules own rules given reading (Nothing c.args.reached)
    (Nothing c.reaches-reached.result) None
    (ap (λ d. d.rules) c.self.view_is ∙ desk.same_rules)
    (subst (IsStanding rules given) c.requires desk.stands)
    (λ quiet. next-quiet own given reading c.args.reached quiet c.args.class
    c.reaches-reached.result is c.reaches-reached.ensures
    (raised-none c.args.class own.raise c.args.reached (sym c.in-None.is ∙ c.raised.ensures)))
