use Rattle.plum_core.proofs.machine.Machine.step.Goals as goal

pub returns-in-Take-clause-follows : goal.returns-in-Take-clause-follows
returns-in-Take-clause-follows c = rw c.in-Take.is (c.take.ensures.follows c.args.setup.now)

pub returns-in-Take-clause-reply : goal.returns-in-Take-clause-reply
returns-in-Take-clause-reply c =
    rw c.in-Take.is (c.take.ensures.reply c.args.setup.now c.args.sites.now)

pub returns-in-Append-clause-follows : goal.returns-in-Append-clause-follows
returns-in-Append-clause-follows c = rw c.in-Append.is (c.append.ensures.follows c.args.setup.now)

pub returns-in-Append-clause-reply : goal.returns-in-Append-clause-reply
returns-in-Append-clause-reply c =
    rw c.in-Append.is (c.append.ensures.reply c.args.setup.now c.args.sites.now)

pub returns-in-Publish-clause-follows : goal.returns-in-Publish-clause-follows
returns-in-Publish-clause-follows c =
    rw c.in-Publish.is (c.publish.ensures.follows c.args.setup.now)

pub returns-in-Publish-clause-reply : goal.returns-in-Publish-clause-reply
returns-in-Publish-clause-reply c =
    rw c.in-Publish.is (c.publish.ensures.reply c.args.setup.now c.args.sites.now)

pub returns-in-Read-clause-follows : goal.returns-in-Read-clause-follows
returns-in-Read-clause-follows c = rw c.in-Read.is (c.read.ensures.follows c.args.setup.now)

pub returns-in-Learn-clause-follows : goal.returns-in-Learn-clause-follows
returns-in-Learn-clause-follows c = rw c.in-Learn.is (c.learn.ensures.follows c.args.setup.now)

pub returns-in-Learn-clause-reply : goal.returns-in-Learn-clause-reply
returns-in-Learn-clause-reply c =
    rw c.in-Learn.is (c.learn.ensures.reply c.args.setup.now c.args.sites.now)
