use Rattle.std.proofs.Common.{◌∙◌, ◌++◌, List, sym, ap, subst, arith}
use mathlib.Core.List.{IsPrefix}
use Rattle.plum_snap.specs.declared.limit.Mark.{Mark}
use Rattle.plum_snap.specs.Limits.{limit_of, key_of, limit_word, AreInTurn}
use Rattle.plum_snap.proofs.Marking.{limit_push, key_push, limits_rise}
use Rattle.plum_snap.proofs.Raising.{raises}
use Rattle.plum_snap.proofs.limit.Limit.write.Goals as goal

pub compare_exchange-requires : goal.compare_exchange-requires
compare_exchange-requires c =
    let own = c.self.inside in
    let word = c.deref-2.ensures ∙ c.self.invariant.0 in
    let book = ap (λ w. w.book) word in
    let marks = c.again-marks.ensures in
    let begin : IsPrefix own.marks.log c.learn.new.self.log =
    subst (λ (l : List Mark). IsPrefix l c.learn.new.self.log) (ap (λ r. r.log) marks)
    c.learn.ensures.2 in
    let limit = c.self.invariant.4 in (
      ap (λ w. w.tracked) word,
      c.learn.ensures.0 ∙ (ap (λ r. r.book) marks ∙ sym book),
      c.self.invariant.1 ∙ sym book,
      c.plain-offer.ensures.0,
      rw (ap (λ w. w.key) word, c.plain-offer.ensures.3)
          (raises own.marks.log c.learn.new.self.log own.pen.nib own.limit c.args.to
          c.plain-offer.result.ask begin (omega (arith, limit, c.self.invariant.5)) limit
          c.self.invariant.3 c.self.invariant.2
          (omega (arith, c.requires.rises, ap (λ l. l.limit) c.self.view_is))),
    )

pub invariant_of-self : goal.invariant_of-self
invariant_of-self c =
    let kept = c.compare_exchange.ensures.0 in
    let book = kept ∙ (c.learn.ensures.0 ∙ ap (λ r. r.book) c.again-marks.ensures) in
    let log = c.learn.new.self.log in
    let added = c.compare_exchange.ensures.7.1 in
    let mark : Mark = record { limit = c.args.to; key = c.plain-offer.result.ask.key } in (
      c.self.invariant.0 ∙ ap limit_word (sym book),
      c.new_pen-next.ensures.book ∙ sym kept,
      c.new_pen-next.ensures.right,
      ap key_of added ∙ (key_push log mark ∙ ap (λ a. a.key) c.plain-offer.ensures.1),
      ap limit_of added ∙ limit_push log mark,
      omega (arith, c.self.invariant.5, c.requires.rises, ap (λ l. l.limit) c.self.view_is),
    )

pub returns-clause-covers : goal.returns-clause-covers
returns-clause-covers c =
    let other = c.args.other.now.log in
    let begins = c.learn.ensures.3 in
    let cells = c.learn.ensures.4.0 in
    let turns : AreInTurn cells (other ++ begins.0) =
    subst (AreInTurn cells) (sym begins.1) c.learn.ensures.4.1.turns in
    omega (
      arith,
      limits_rise cells other begins.0 turns,
      ap limit_of begins.1,
      c.compare_exchange.ensures.7.0,
      ap (λ l. l.limit) c.self.view_is,
    )
