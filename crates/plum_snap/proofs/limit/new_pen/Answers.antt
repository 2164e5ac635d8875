use Rattle.std.proofs.Common.{◌≡◌, sym, ◌∙◌, ap}
use Rattle.plum_snap.proofs.Raising.{makes_pen}
use Rattle.plum_snap.proofs.limit.new_pen.Goals as goal

pub compare_exchange-requires : goal.compare_exchange-requires
compare_exchange-requires c =
    let word = c.requires in
    let marks = c.again-marks.ensures in
    let offer = c.plain-offer.ensures in
    let pen = c.no_pen-pen.ensures in
    let book : c.again-marks.result.book ≡ c.args.word.now.book =
    ap (λ r. r.book) marks ∙ sym (ap (λ w. w.book) word) in (
      ap (λ w. w.tracked) word,
      book,
      pen.0 ∙ book,
      offer.0,
      rw (ap (λ w. w.key) word, pen.1, offer.3) (makes_pen _ c.plain-offer.result.ask),
    )
