use Rattle.std.proofs.Common.{◌∙◌, sym, ap}
use Rattle.plum_snap.proofs.Raising.{begins}
use Rattle.plum_snap.proofs.limit.Limit.begin.Goals as goal

pub compare_exchange-found-requires : goal.compare_exchange-found-requires
compare_exchange-found-requires c =
    let word = c.tracked-word.ensures.0 in
    let book = ap (λ w. w.book) word ∙ c.open-marks.ensures.2 in
    let key = ap (λ w. w.key) word ∙ ap (λ n. n.key) c.open-marks.ensures.4 in (
      ap (λ w. w.tracked) word,
      sym book,
      c.new_pen-pen.ensures.book ∙ sym book,
      c.plain-offer.ensures.0,
      rw (key, c.plain-offer.ensures.3)
          (begins c.open-marks.result.0.log c.new_pen-pen.result.nib c.plain-offer.result.ask),
    )
