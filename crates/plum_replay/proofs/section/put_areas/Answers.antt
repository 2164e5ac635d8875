use Rattle.std.proofs.Common.{◌≡◌, ◌<◌, List, ℕ, length, subst, arith}
use Rattle.std.proofs.lemmas.Slice.Zip.{AllZip-long}
use Rattle.plum_base.specs.Sites.{areas_of, targets_of}
use Rattle.plum_base.specs.Sites.{AreNumbersOf}
use Rattle.plum_replay.proofs.Numbered.{HoldsIn, list_at}
use Rattle.plum_replay.proofs.PartTexts.{area_more}
use Rattle.plum_replay.proofs.section.put_areas.Goals as goal
use Rattle.plum_replay.proofs.section.put_areas.Goals.{After-area_name-area}

-- there is a list for each area
listed : (c : After-area_name-area) → c.loop-a.a < length c.args.by_area.now
listed c =
    let targets = c.args.sites.now.targets in
    let long =
    AllZip-long (HoldsIn targets targets) (areas_of targets) c.args.by_area.now
    c.requires.by_area in
    omega (arith, c.areas-a-end.ensures)

pub bounds-by_area-i : goal.bounds-by_area-i
bounds-by_area-i c = listed c

-- it has the targets of the area
pub put_area-requires : goal.put_area-requires
put_area-requires c =
    let targets = c.args.sites.now.targets in
    let area = c.area_name-area.result in
    let numbers = c.as_slice-targets.result.now in
    let at =
    list_at targets c.args.by_area.now c.loop-a.a c.index-by_area-i.result numbers
    c.requires.by_area (listed (goal.at.put_area-requires c).After-area_name-area)
    c.index-by_area-i.is c.as_slice-targets.ensures.value in
    let same : at.0 ≡ area =
    let named = at.1 in let told = c.area_name-area.ensures in cc in
    let of_area : AreNumbersOf targets numbers (targets_of area targets) =
    subst (λ (a : List ℕ). AreNumbersOf targets numbers (targets_of a targets)) same at.2 in
    record { targets = rw c.targets.ensures.value of_area }

pub loop-a-preserved : goal.loop-a-preserved
loop-a-preserved c =
    area_more c.args.sites.now.targets c.args.m c.args.readings.now c.args.alerts.now c.loop-a.a
    c.area_name-area.result c.index-readings-i.result c.loop-a.out c.put_area.new.out _
    c.requires.readings c.requires.alerts c.area_name-area.ensures c.index-readings-i.is
    (rw c.targets.ensures.value at c.in_ok-put_area.ensures) c.loop-a.invariant
