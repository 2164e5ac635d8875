use Rattle.std.proofs.Common.{◌≡◌, ◌<◌, Some, length, slice_get, IsSomeAnd, subst}
use Rattle.plum_base.specs.Sites.{SitesView, areas_of}
use Rattle.plum_base.proofs.Areas.{numbered_at}
use Rattle.plum_base.proofs.sites.Sites.area_of.Goals as goal

pub returns : goal.returns
returns c =
    let P : SitesView → Type 0 = λ s. c.args.target.0 < length s.targets
    → IsSomeAnd (slice_get s.targets c.args.target.0)
    (λ t. slice_get (areas_of s.targets) c.index.result.now.0 ≡ Some t.area) in
    subst P c.self.view_is
    (λ l. numbered_at _ _ _ _ _ c.self.invariant.2 l c.index.ensures) c.requires
