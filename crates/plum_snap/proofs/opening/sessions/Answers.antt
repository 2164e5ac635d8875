use Rattle.std.proofs.Common.{rules, ◌≡◌, ◌∙◌, ◌++◌, [], ◌∷◌, sym, take}
use Rattle.std.proofs.lemmas.List.{map-append, take_more}
use Rattle.std.proofs.lemmas.Option.{get_or_from_slice_get, slice_get_within}
use Rattle.plum_base.specs.Sites.{areas_of}
use Rattle.plum_snap.specs.Sessions.{new_session}
use Rattle.plum_snap.proofs.opening.sessions.Goals as goal

pub loop-a-preserved : goal.loop-a-preserved
loop-a-preserved c =
    let a = c.loop-a.a in
    let areas = areas_of c.args.sites.now.targets in
    let area = c.area_name-area.result in
    let below = slice_get_within areas a area c.area_name-area.ensures in
    let here = get_or_from_slice_get areas a area area c.area_name-area.ensures in
    let new = new_session c.args.front.now.publisher c.args.sites.now in
    let one_more = rw here at (take_more areas a area below) in
    let pushed : c.push.new.self.items ≡ c.loop-a.sessions.items ++ c.in_ok-session.session ∷ [] =
    rw (← c.in_ok-map_err.ensures.variant) at c.push.ensures.items in
    record {
      sessions =
          rw (one_more, pushed, c.loop-a.invariant.sessions, c.in_ok-session.ensures.session)
          (sym (map-append new (take a areas) (area ∷ [])));
      doors = c.in_ok-session.ensures.place ∙ c.loop-a.invariant.doors;
      place = c.in_ok-session.ensures.knows ∙ c.loop-a.invariant.place;
      writer = search rules;
    }
