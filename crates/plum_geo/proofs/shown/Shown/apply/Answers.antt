use Rattle.std.proofs.Common.{◌<◌, length, arith, ap, sym, ◌∙◌}
use Rattle.plum_geo.proofs.Showing.{AreShown-set}
use Rattle.plum_geo.proofs.shown.Shown.apply.Goals as goal

pub returns-then-none_or_on_scale-clause-shown : goal.returns-then-none_or_on_scale-clause-shown
returns-then-none_or_on_scale-clause-shown c = λ stations entries before.
    let listed : c.args.entry.now.station.0 < stations =
    omega (arith, before.count, c.len.ensures, c.if-station-len.true, ap length c.self.view_is) in
    rw c.self.view_is
    (AreShown-set c.args.self.now stations entries c.args.entry.now before listed
    (sym c.none_or_on_scale.ensures.value ∙ c.if-none_or_on_scale.true))
