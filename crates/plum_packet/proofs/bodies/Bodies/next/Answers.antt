use Rattle.std.proofs.Common.{◌∙◌, refl, sym, ap, subst, Err}
use Rattle.std.proofs.lemmas.Bool.{false≢true}
use Rattle.std.proofs.lemmas.Result.{err_from_is_err_and}
use Rattle.plum_packet.specs.Segments.{DecodesAs}
use Rattle.plum_packet.proofs.Telling.{from_read, from_limit}
use Rattle.plum_packet.proofs.Telling.{told_at_mark, told_body, told_whole, fails_within, too_many}
use Rattle.plum_packet.proofs.bodies.Bodies.next.Goals as goal

pub returns-in_err-body-clause-read : goal.returns-in_err-body-clause-read
returns-in_err-body-clause-read g c =
    let said = c.in_err-body.ensures in
    let p = err_from_is_err_and c.from_residual.result c.from_residual.ensures.1 in
    rw (p.1, p.2, ← c.self.view_is) (λ e capture given told.
    let read = from_read c.in_err-body.field-0.0 cc in
    fails_within c.args.sites.now.stations capture given _ c.next.new.self _ _
    (said.goes_on (ap Err read)).1 said.err.0 told c.self.invariant.1 (said.short (ap Err read)))

pub returns-in_err-body-clause-over : goal.returns-in_err-body-clause-over
returns-in_err-body-clause-over g c =
    let said = c.in_err-body.ensures in
    let begun = ap (λ v. v.records.progress) c.self.view_is ∙ c.requires.progress in
    let p = err_from_is_err_and c.from_residual.result c.from_residual.ensures.1 in
    rw (p.1, p.2, ← c.self.view_is) (λ e capture given told.
    let over = said.limit (ap Err (from_limit c.in_err-body.field-0.0 cc)) begun in
    too_many c.args.sites.now.stations capture given _ c.next.new.self _ _ over.2 said.err.0 told
    (over.0 ∙ c.self.invariant.0) over.1)

pub returns-in_default-clause-none : goal.returns-in_default-clause-none
returns-in_default-clause-none g c =
    let begun = ap (λ v. v.records.progress) c.self.view_is ∙ c.requires.progress in
    let end = rw c.in_default.is at c.in_ok-body.ensures.end in
    let ends = rw c.in_default.is at c.in_ok-body.ensures.none in
    rw (← c.self.view_is) (λ capture given told.
    told_whole c.args.sites.now.stations capture given _ _ _ _ (ends begun) end.0 refl
    c.self.invariant.1 told)

pub returns-then-body-clause-some : goal.returns-then-body-clause-some
returns-then-body-clause-some g c =
    let said = c.in_ok-body.ensures in
    let gives = rw c.in-Some.is at said.some in
    let mark = rw c.in-Some.is at said.mark in
    let next = c.end_segment.ensures in
    rw (← c.self.view_is) (λ capture given told.
    told_at_mark c.args.sites.now.stations capture given _ c.next.new.self _ _ gives told
    c.end_segment.new.self (ap (λ v. v.records) next) (ap (λ v. v.segments) next)
    (ap (λ v. v.begun) next) (mark.0 c.if-body.true))

pub returns-clause-some : goal.returns-clause-some
returns-clause-some g c =
    let said = c.in_ok-body.ensures in
    let gives = rw c.in-Some.is at said.some in
    let mark = rw c.in-Some.is at said.mark in
    let number = rw c.in-Some.is at said.number in
    let found = c.in_ok-found.ensures.body in
    let decodes = subst (λ l. DecodesAs c.args.sites.now.stations l found.0) c.bytes.ensures.value
    found.1 in
    rw (← c.self.view_is) (λ capture given told.
    told_body c.args.sites.now.stations capture given _ c.next.new.self _ _ gives told
    found.0 decodes (λ e. false≢true (sym c.if-body.false ∙ mark.1 e))
    c.in_ok-found.found c.in-Some.body.number number.0 number.1 found.2
    c.count_body.new.self c.count_body.ensures.within c.count_body.ensures.full)
