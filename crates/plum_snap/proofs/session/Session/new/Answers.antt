use Rattle.std.proofs.Common.{◌≡◌, ◌∙◌, ap, sym, length, replicate, None}
use Rattle.plum_base.proofs.ByNumber.{as_many}
use Rattle.plum_base.specs.Sites.{targets_of}
use Rattle.plum_snap.proofs.session.Session.new.Goals as goal

pub returns : goal.returns
returns c =
    let sites = c.args.sites.now in
    let targets = targets_of c.args.area sites.targets in
    let numbers = c.in_ok-targets.targets in
    let long =
    sym (as_many sites.targets numbers.items targets c.in_ok-targets.ensures.numbers) in
    let answers : c.in_ok-answers.answers ≡ replicate (length targets) None =
    c.in_ok-answers.ensures ∙ ap (λ n. replicate n None) (c.len.ensures ∙ numbers.ok.0 ∙ long) in
    cc (answers, c.requires)
