use base.Growing.{prefix_anti, prefix_trans}
use Rattle.plum_trials_snap.proofs.sessions.read_all.Goals as goal

pub returns-clause-all : goal.returns-clause-all
returns-clause-all c =
    let published = c.args.publisher.now.published in
    let seen = c.read.new.session.seen in
    let front = rw (c.shows_what_was_seen.ensures.same, c.receipt.ensures.same)
    at c.shows_what_was_seen-2.ensures.front in
    let learned = rw c.receipt.ensures.receipt at c.learn.ensures.that in
    prefix_anti seen published front
    (prefix_trans published c.learn.new.self.seen seen learned c.in_ok-seen.ensures.goes_on)
