use Rattle.std.proofs.Common.{◌≤◌, ◌⊎◌, ap, arith, length}
use mathlib.Core.List.{IsPrefix}
use Rattle.plum_snap.proofs.Fronts.{prefix_of_longer}
use Rattle.plum_snap.proofs.publisher.Publisher.shows_receipt.Goals as goal

pub returns : goal.returns
returns c =
    let receipt = c.args.receipt.now.entries in
    let shown = c.self.inside.writer.desk.shown.value.front.entries in
    let one : IsPrefix receipt shown ⊎ IsPrefix shown receipt =
    rw (ap (λ f. f.entries) c.front.ensures, ap (λ s. s.front.entries) c.published.ensures)
    at c.are_of_one_list.ensures in
    let short : length receipt ≤ length shown =
    omega (arith, c.marks.ensures.limit, c.covers.ensures.limit, c.self.invariant.3) in
    record {
      front = rw (← c.self.view_is) (prefix_of_longer receipt shown one short);
      same = rw c.covers.ensures.same c.self.view_is;
    }
