use Rattle.std.proofs.Common.{◌∙◌, sym, ap, subst, inl, inr, Err, arith}
use Rattle.std.proofs.lemmas.Bool.{false≢true, ltb-true, ltb-false}
use Rattle.plum_host.specs.declared.host.In.TheVariants.{Capture}
use Rattle.plum_packet.specs.Reading.{HoldsOneMore}
use Rattle.plum_packet.specs.Segments.{DecodesAs}
use Rattle.plum_packet.proofs.Taking.{TakesBody, goes_on, ends_full, ends_at_mark}
use Rattle.plum_packet.proofs.Taking.{ends_with_capture, ends_in_place, goes_on_in_place}
use Rattle.plum_packet.proofs.Taking.{gives_one, cases_fault}
use Rattle.plum_packet.proofs.segments.Segments.take.Given as given
use Rattle.plum_packet.proofs.segments.Segments.take.Goals as goal

pub returns-in_err-body-clause-taken : goal.returns-in_err-body-clause-taken
returns-in_err-body-clause-taken g c =
    let said = c.in_err-body.ensures in
    let begun = ap (λ v. v.progress) c.self.view_is ∙ c.requires.begun in
    rw (← c.self.view_is)
    (goes_on_in_place _ _ _ _ (elim (cases_fault c.in_err-body.field-0.0) [
      | inl read ↦ (said.goes_on (ap Err read)).1
      | inr limit ↦ (said.limit (ap Err limit) begun).2
    ]))

pub returns-in_default-clause-last : goal.returns-in_default-clause-last
returns-in_default-clause-last g c =
    let begun = ap (λ v. v.progress) c.self.view_is ∙ c.requires.begun in
    let end = rw c.in_default.is at c.in_ok-body.ensures.end in
    let ends = rw c.in_default.is at c.in_ok-body.ensures.none in
    rw (← c.self.view_is)
    (λ _. ends_with_capture c.args.sites.now.stations _ _ _ _ _ end.0 (ends begun)
    (omega (arith, c.self.invariant, c.next.ensures.same_limit)))

pub returns-in_default-clause-taken : goal.returns-in_default-clause-taken
returns-in_default-clause-taken g c =
    let begun = ap (λ v. v.progress) c.self.view_is ∙ c.requires.begun in
    let end = rw c.in_default.is at c.in_ok-body.ensures.end in
    let ends = rw c.in_default.is at c.in_ok-body.ensures.none in
    rw (← c.self.view_is) (ends_in_place _ _ _ _ end.1.0 (ends begun))

pub returns-then-body-clause-last : goal.returns-then-body-clause-last
returns-then-body-clause-last g c =
    let said = c.in_ok-body.ensures in
    let gives = rw c.in-Some.is at said.some in
    let still_open = rw c.in-Some.is at said.still_open in
    let mark = rw c.in-Some.is at said.mark in
    rw (← c.self.view_is)
    (λ _. ends_at_mark c.args.sites.now.stations _ _ _ _ c.args.segment.now gives still_open
    (mark.0 c.if-body.true))

pub returns-then-body-clause-taken : goal.returns-then-body-clause-taken
returns-then-body-clause-taken g c =
    let gives = rw c.in-Some.is at c.in_ok-body.ensures.some in
    rw (← c.self.view_is) (gives_one _ _ _ _ gives)

pub returns-in_err-push-clause-taken : goal.returns-in_err-push-clause-taken
returns-in_err-push-clause-taken g c =
    let gives = rw c.in-Some.is at c.in_ok-body.ensures.some in
    rw (← c.self.view_is) (gives_one _ _ _ _ gives)

-- the body that was pushed is that of the last record, with its number
takes_body : (g : given.Over) (c : goal.After-bodies g)
    → TakesBody c.args.sites.now.stations
    c.args.self.now ((g.H.Host.told c.args.host.now).left Capture)
    c.next.new.self ((g.H.Host.told c.next.new.host).left Capture)
    c.args.segment.now c.push.new.self
takes_body g c =
    let said = c.in_ok-body.ensures in
    let mark = rw c.in-Some.is at said.mark in
    let number = rw c.in-Some.is at said.number in
    let pushed = c.in_ok-push.ensures.body in
    rw (← c.self.view_is) (record {
      gives = rw c.in-Some.is at said.some;
      still_open = rw c.in-Some.is at said.still_open;
      differs = λ e. false≢true (sym c.if-body.false ∙ mark.1 e);
      body = pushed.0;
      decodes = subst (λ l. DecodesAs c.args.sites.now.stations l pushed.0) c.bytes.ensures.value
          pushed.1;
      held = subst (λ n. HoldsOneMore c.args.segment.now c.push.new.self (n, pushed.0)) number.0
          pushed.2;
    })

pub returns-clause-more : goal.returns-clause-more
returns-clause-more g c = λ less.
    goes_on c.args.sites.now.stations _ _ _ _ _ _ (takes_body g c)
    (λ e. omega (arith, e, c.in_ok-push.ensures.count, c.bodies.ensures, ltb-true _ _ less))

pub returns-clause-last : goal.returns-clause-last
returns-clause-last g c = λ less.
    ends_full c.args.sites.now.stations _ _ _ _ _ _ (takes_body g c)
    (omega (
      arith,
      c.requires.room,
      c.in_ok-push.ensures.count,
      c.bodies.ensures,
      ltb-false _ _ less,
    ))

pub returns-clause-taken : goal.returns-clause-taken
returns-clause-taken g c = gives_one _ _ _ _ (takes_body g c).gives
