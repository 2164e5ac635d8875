use Rattle.std.proofs.Common.{◌≡◌, ◌+◌, ◌<◌, ◌∙◌, ◌++◌, ◌∷◌, [], ap, length, take, slice_get}
use Rattle.std.proofs.Common.{get_or, arith}
use Rattle.std.proofs.lemmas.List.{get_or_read, take_all, take_more}
use Rattle.std.proofs.lemmas.Option.{slice_get_within, get_or_from_slice_get}
use Rattle.std.proofs.lemmas.Slice.Zip.{AllZip-long}
use Rattle.plum_base.specs.Sites.{areas_of}
use Rattle.plum_replay.proofs.Numbered.{HoldFront-nil, HoldFront-more, HoldsIn, some_with}
use Rattle.plum_replay.proofs.areas.targets_by_area.Goals as goal

pub loop-t-init : goal.loop-t-init
loop-t-init c =
    HoldFront-nil c.args.sites.now.targets c.in_ok-lists.lists.items
    (c.in_ok-lists.ensures.count ∙ c.areas.ensures) c.in_ok-lists.ensures.none

-- there is a list of the target's area
pub index_mut-requires : goal.index_mut-requires
index_mut-requires c =
    let targets = c.args.sites.now.targets in
    let site = some_with (slice_get targets c.loop-t.t) _ c.area_of-area.ensures in
    let long =
    AllZip-long (HoldsIn targets (take c.loop-t.t targets)) (areas_of targets)
    c.loop-t.lists.items c.loop-t.invariant in
    let inside = slice_get_within (areas_of targets) c.area_of-area.result.0 _ site.2 in
    omega arith

-- one target more
pub loop-t-preserved : goal.loop-t-preserved
loop-t-preserved c =
    let targets = c.args.sites.now.targets in
    let t = c.loop-t.t in
    let a = c.area_of-area.result.0 in
    let front = take t targets in
    let lists = c.loop-t.lists.items in
    let site = some_with (slice_get targets t) _ c.area_of-area.ensures in
    let long = AllZip-long (HoldsIn targets front) (areas_of targets) lists c.loop-t.invariant in
    let inside = slice_get_within (areas_of targets) a _ site.2 in
    let within : a < length lists = omega arith in
    let list = c.push.new.self in
    let pushed : list.items ≡ (get_or lists a list).items ++ _ ∷ [] =
    rw (get_or_read lists a c.index_mut.result.now within c.index_mut.ensures.value list)
    at c.in_ok-push.ensures.items in
    let listed = slice_get_within targets t site.0 site.1 in
    let one_more : take (t + 1) targets ≡ front ++ site.0 ∷ [] =
    take_more targets t site.0 listed
    ∙ ap (λ s. front ++ s ∷ []) (get_or_from_slice_get targets t site.0 site.0 site.1) in
    rw one_more
    (HoldFront-more targets front lists site.0 _ a list c.loop-t.invariant site.1 site.2 pushed)

pub returns : goal.returns
returns c =
    let targets = c.args.sites.now.targets in
    rw (take_all c.loop-t.t targets (omega (arith, ap length c.targets.ensures.value)))
    at c.loop-t.invariant
