use Rattle.std.proofs.Common.{refl}
use Rattle.plum.proofs.Watching.{watched_kept, watched_repeat}
use Rattle.plum.proofs.watch.Watch.take_own.Goals as goal

pub returns-in-Kept-clause-takes : goal.returns-in-Kept-clause-takes
returns-in-Kept-clause-takes c = λ setup stations packets history listed has.
    let laws = c.sending_keeps_validity.ensures in
    let is = c.requires.own in
    rw c.value_line.ensures (watched_kept c.args.self.now setup stations packets history has
    c.args.packet is listed
    c.giving_keeps_backlog.ensures.backlog _ refl refl
    (c.take.ensures.stands setup _ (has.stands c.args.packet.station is))
    laws.joins laws.order laws.backlog c.in-Kept.entry
    (c.in-Kept.ensures.gives setup _ (has.stands c.args.packet.station is)) refl refl)

pub returns-in-Repeat-clause-takes : goal.returns-in-Repeat-clause-takes
returns-in-Repeat-clause-takes c = λ setup stations packets history listed has.
    let is = c.requires.own in
    watched_repeat c.args.self.now setup stations packets history has c.args.packet is listed
    c.giving_keeps_backlog.ensures.backlog _ refl refl
    (c.take.ensures.stands setup _ (has.stands c.args.packet.station is))
    _ (c.in-Repeat.ensures.gives setup _ (has.stands c.args.packet.station is)) refl refl
