use Rattle.std.proofs.Common.{◌≡◌, ◌<◌, ◌^◌, true, false, ap, sym, ◌∙◌, arith}
use Rattle.plum_base.specs.Counting.{one_more}
use Rattle.plum_host.specs.Schedule.{is_listed}
use Rattle.plum_host.proofs.Scheduled.{failed-one_more, failed-same}
use Rattle.plum_host.proofs.schedule.Schedule.next.Goals as goal

pub returns-then-is_listed-clause-fault : goal.returns-then-is_listed-clause-fault
returns-then-is_listed-clause-fault c =
    let numbers = c.self.inside.failing.items in
    let made = c.self.inside.made in
    let call = c.saturating_add-call.result in
    let failing : c.args.self.now.failing ≡ numbers = sym (ap (λ s. s.failing) c.self.view_is) in
    let made_is : c.args.self.now.made ≡ made = sym (ap (λ s. s.made) c.self.view_is) in
    let counted : call ≡ one_more made = omega arith in
    let listed : is_listed numbers call ≡ true =
    ap (λ l. is_listed l call) (sym c.deref.ensures.value)
    ∙ sym c.is_listed.ensures.value ∙ c.if-is_listed.true in
    let low : call < 2 ^ 32 = c.is_listed.ensures.bound call
    (sym c.is_listed.ensures.value ∙ c.if-is_listed.true) in
    rw (failing, made_is) (failed-one_more numbers made call counted listed low)

pub returns-clause-no_fault : goal.returns-clause-no_fault
returns-clause-no_fault c =
    let numbers = c.self.inside.failing.items in
    let made = c.self.inside.made in
    let call = c.saturating_add-call.result in
    let failing : c.args.self.now.failing ≡ numbers = sym (ap (λ s. s.failing) c.self.view_is) in
    let made_is : c.args.self.now.made ≡ made = sym (ap (λ s. s.made) c.self.view_is) in
    let counted : call ≡ one_more made = omega arith in
    let unlisted : is_listed numbers call ≡ false =
    ap (λ l. is_listed l call) (sym c.deref.ensures.value)
    ∙ sym c.is_listed.ensures.value ∙ c.if-is_listed.false in
    let bound : made < 2 ^ 64 = omega arith in
    rw (failing, made_is) (failed-same numbers made call counted bound unlisted)
