use Rattle.std.proofs.Common.{◌≡◌, sym, ◌∙◌, ap}
use Rattle.plum_snap.proofs.Raising.{looks}
use Rattle.plum_snap.proofs.limit.read_limit.Goals as goal

pub load-limit-requires : goal.load-limit-requires
load-limit-requires c =
    let word = c.requires in
    let marks = c.again-marks.ensures in
    let offer = c.plain-offer.ensures in
    let book : c.again-marks.result.book ≡ c.args.word.now.book =
    ap (λ r. r.book) marks ∙ sym (ap (λ w. w.book) word) in (
      ap (λ w. w.tracked) word,
      book,
      offer.0,
      rw (ap (λ w. w.key) word, offer.3) (looks _ c.plain-offer.result.ask),
    )
