use Rattle.std.proofs.Common.{length, drop, ap, sym, ◌∙◌, ◌≡◌}
use Rattle.plum_snap.specs.Rule.{next_of}
use Rattle.plum_snap.proofs.publisher.Publisher.pending.Goals as goal

pub returns-clause-front : goal.returns-clause-front
returns-clause-front c =
    let p = c.self.inside in
    let shown = p.writer.desk.shown.value.front.entries in
    let all : (next_of p.writer).front.entries ≡ p.front.entries =
    ap (λ f. f.entries) c.self.invariant.2 in
    rw (← c.self.view_is)
    (drop (length shown) (next_of p.writer).front.entries, sym c.self.invariant.1.longer ∙ all)
