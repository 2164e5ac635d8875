use Rattle.std.proofs.Common.{◌≡◌, ◌∙◌, ap}
use Rattle.plum_base.proofs.ByNumber.{numbers_exist}
use Rattle.plum_base.specs.Sites.{SitesView, targets_of}
use Rattle.plum_snap.proofs.session.Session.after_looking.Goals as goal

pub answer-requires-clause-exist : goal.answer-requires-clause-exist
answer-requires-clause-exist c =
    let session = c.self.inside in
    let sites : SitesView = session.entrance.sites in
    let same : c.board.result.now.sites ≡ sites =
    ap (λ b. b.sites) c.board.ensures ∙ c.in-Ok.ensures.sites in
    rw (same, c.as_slice-numbers.ensures.value)
    (numbers_exist sites.targets session.targets.items (targets_of session.area sites.targets)
    c.self.invariant.0)
