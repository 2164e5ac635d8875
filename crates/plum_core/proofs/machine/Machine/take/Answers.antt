use Rattle.std.proofs.Common.{None, Some, refl, sym, ap, ◌∙◌}
use Rattle.std.specs.Prelude.{if◌then◌else◌}
use Rattle.plum_base.specs.Lane.{lane_of}
use Rattle.plum_base.specs.declared.setup.Setup.{Setup}
use Rattle.plum_core.specs.Machine.{State}
use Rattle.plum_core.specs.Following.{Follows, taken_of}
use Rattle.plum_core.specs.History.{entry_of}
use Rattle.plum_core.proofs.Followings.{waiting_after-kept, IsFree, IsFree-found}
use Rattle.plum_core.proofs.Followings.{Follows-taken, lane_is_free, waiting_stays}
use Rattle.plum_core.proofs.machine.Machine.take.Goals as goal
use Rattle.plum_core.proofs.machine.Machine.take.Goals.{After-take}

-- the packet's lane, where the network takes the packet
is_free : (c : After-take) (setup : Setup) (state : State) → Follows setup c.args.self.now state
    → IsFree setup state c.args.packet c.args.self.now c.lane_of-lane.result.0
is_free c setup state follows =
    let lane = c.lane_of-lane.ensures in
    IsFree-found setup state c.args.packet c.args.self.now _ _ follows lane.value lane.bound
    c.index.ensures (sym c.is_some.ensures ∙ c.if-is_some.false)

pub returns-in-Kept-clause-follows : goal.returns-in-Kept-clause-follows
returns-in-Kept-clause-follows c = λ setup state follows.
    let m = c.args.self.now in
    let p = c.args.packet in
    let at_take = (goal.at.returns-in-Kept-clause-follows c).After-take in
    let free = is_free at_take setup state follows in
    let taken = (state.lanes (lane_of setup.lanes p.station.0)).taken in
    let e = c.in-Kept.entry in
    let entry = c.in-Kept.ensures.gives setup (taken_of setup state) follows.network in
    Follows-taken setup state p m _ _ free (Some e)
    (waiting_after-kept c.one_value.ensures.only setup taken p e entry) refl
    (c.take.ensures.stand setup (taken_of setup state) follows.network)
    (record { queue = refl; gathered = refl; appended = refl; published = refl; seen = refl })

pub returns-in-Kept-clause-reply : goal.returns-in-Kept-clause-reply
returns-in-Kept-clause-reply c = λ setup sites state follows.
    let m = c.args.self.now in
    let p = c.args.packet in
    let at_take = (goal.at.returns-in-Kept-clause-reply c).After-take in
    let free = is_free at_take setup state follows in
    let told = c.in-Kept.ensures.gives setup (taken_of setup state) follows.network in
    (lane_is_free setup state p m m _ free, told.kept)

pub returns-in-Repeat-clause-follows : goal.returns-in-Repeat-clause-follows
returns-in-Repeat-clause-follows c = λ setup state follows.
    let m = c.args.self.now in
    let p = c.args.packet in
    let at_take = (goal.at.returns-in-Repeat-clause-follows c).After-take in
    let free = is_free at_take setup state follows in
    let taken = (state.lanes (lane_of setup.lanes p.station.0)).taken in
    let told = c.in-Repeat.ensures.gives setup (taken_of setup state) follows.network in
    Follows-taken setup state p m _ _ free None
    (ap (λ b. if b then Some (entry_of setup taken p) else None) told.0)
    (waiting_stays setup state p m m _ free)
    (c.take.ensures.stand setup (taken_of setup state) follows.network)
    (record { queue = refl; gathered = refl; appended = refl; published = refl; seen = refl })

pub returns-in-Repeat-clause-reply : goal.returns-in-Repeat-clause-reply
returns-in-Repeat-clause-reply c = λ setup sites state follows.
    let m = c.args.self.now in
    let p = c.args.packet in
    let at_take = (goal.at.returns-in-Repeat-clause-reply c).After-take in
    let free = is_free at_take setup state follows in
    let told = c.in-Repeat.ensures.gives setup (taken_of setup state) follows.network in
    (lane_is_free setup state p m m _ free, told)
