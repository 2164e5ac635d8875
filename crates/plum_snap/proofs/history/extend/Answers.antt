use Rattle.std.proofs.Common.{◌≡◌, sym, ◌∙◌, ap}
use Rattle.plum_snap.proofs.Adding.{adds_moves}
use Rattle.plum_snap.proofs.history.extend.Goals as goal

pub compare_exchange-found-requires : goal.compare_exchange-found-requires
compare_exchange-found-requires c =
    let head = c.requires.head in
    let reached = c.again-reached.ensures in
    let offer = c.plain-offer.ensures in
    let pen = c.no_pen-pen.ensures in
    let front = c.front.inside in
    let book : c.again-reached.result.book ≡ c.args.head.now.book =
    ap (λ r. r.book) reached ∙ ap (λ f. f.list) c.front.view_is
    ∙ sym (ap (λ w. w.book) head) in (
      ap (λ w. w.tracked) head,
      book,
      pen.0 ∙ book,
      offer.0,
      rw (ap (λ w. w.key) head, pen.1, offer.1, offer.3, ap (λ r. r.log) reached)
          (adds_moves front.reached.log c.args.entry.now front.count (sym c.front.invariant.0)),
    )
