-- The sessions of a centre that was opened.
use Rattle.std.proofs.Common.{◌≡◌, ◌<◌, List, [], length, slice_index_or, ap, ◌∙◌}
use Rattle.std.proofs.Common.{subst}
use Rattle.std.proofs.lemmas.List.{length-map, get_or-map}
use Rattle.plum_base.specs.Sites.{areas_of}
use Rattle.plum_snap.specs.Sessions.{SessionView, new_session, new_sessions}
use Rattle.plum_centre.specs.Centre.{CentreId, AreSessions}

pub AreSessions-new : (id : CentreId) (sessions : List SessionView)
    → sessions ≡ new_sessions id.publisher id.sites
    → AreSessions id sessions
AreSessions-new id sessions is =
    let areas = areas_of id.sites.targets in
    let new = new_session id.publisher id.sites in
    let all : length sessions ≡ length areas = ap length is ∙ length-map areas new in
    record {
      all = all;
      each = λ a d less.
          let at : slice_index_or sessions a d ≡ new (slice_index_or areas a []) =
          ap (λ (ss : List SessionView). slice_index_or ss a d) is
          ∙ get_or-map new areas a [] d (subst (λ n. a < n) all less) in
          record {
            publisher_is = ap (λ s. s.publisher) at;
            sites_are = ap (λ s. s.sites) at;
            area_is = ap (λ s. s.area) at;
          };
    }
