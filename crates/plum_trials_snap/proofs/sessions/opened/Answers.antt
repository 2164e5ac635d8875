use Rattle.std.proofs.Common.{◌∙◌, ◌++◌, ap, sym}
use Rattle.std.specs.Option.{option_to_list}
use Rattle.plum_base.specs.Sites.{areas_of}
use Rattle.plum_trials_snap.proofs.Opened.{taken, taken_before}
use Rattle.plum_trials_snap.proofs.sessions.opened.Goals as goal

pub returns-in-Ok-clause-last : goal.returns-in-Ok-clause-last
returns-in-Ok-clause-last g c =
    taken c.in-Ok.publisher.publisher c.args.sites.now (areas_of c.args.sites.now.targets)
    c.pop-last.new.self.items c.pop-last.result
    (sym c.in-Ok.ensures.sessions ∙ c.pop-last.ensures.items)

pub returns-in-Ok-clause-before : goal.returns-in-Ok-clause-before
returns-in-Ok-clause-before g c =
    let last = option_to_list c.pop-last.result in
    taken_before c.in-Ok.publisher.publisher c.args.sites.now
    (areas_of c.args.sites.now.targets) c.pop-before.new.self.items c.pop-before.result
    c.pop-last.result
    (sym c.in-Ok.ensures.sessions ∙ c.pop-last.ensures.items
    ∙ ap (λ items. items ++ last) c.pop-before.ensures.items)
