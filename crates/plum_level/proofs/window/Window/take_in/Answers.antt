use Rattle.std.proofs.Common.{refl, arith}
use Rattle.plum_level.proofs.Renewing.{sum-few, leaving-counted}
use Rattle.plum_level.proofs.Windows.{IsWindow-renewed}
use Rattle.plum_level.proofs.window.Window.take_in.Goals as goal

pub renew-requires-clause-left : goal.renew-requires-clause-left
renew-requires-clause-left c =
    let before = c.self.invariant.1 in
    rw (c.push_back-left.ensures.value, c.self.invariant.0)
    (leaving-counted c.self.inside.tally.counts c.self.inside.ring.items c.args.level
    before.settled.tallied.places before.counted _ refl)

pub renew-requires-clause-few : goal.renew-requires-clause-few
renew-requires-clause-few c =
    let before = c.self.invariant.1 in
    omega (
      arith,
      before.short,
      sum-few c.self.inside.tally.counts c.self.inside.ring.items before.counted,
    )

pub invariant_of-self : goal.invariant_of-self
invariant_of-self c =
    let left = rw c.self.invariant.0 at c.push_back-left.ensures.value in
    rw (c.push_back-left.ensures.items, c.self.invariant.0) (
      refl,
      IsWindow-renewed _ c.self.inside.ring.items c.self.inside.tally _ _ c.args.level
          c.self.invariant.1 c.requires left c.renew.ensures.counts c.renew.ensures.settled,
    )
