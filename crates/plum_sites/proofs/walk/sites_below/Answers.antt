use Rattle.std.proofs.Common.{◌≡◌, ◌+◌, length, map, take, drop, subst, ap, ◌∙◌, arith}
use Rattle.std.proofs.lemmas.Bool.{ltb-true}
use Rattle.std.proofs.lemmas.List.{length_push}
use Rattle.std.proofs.lemmas.Result.{err_from_is_err_and}
use Rattle.csv.specs.Records.{fields_of}
use Rattle.plum_sites.specs.Files.{HasRowFault}
use Rattle.std.proofs.lemmas.Slice.Zip.{all_zipped_more}
use Rattle.plum_sites.proofs.FirstRecords.{if_fault}
use Rattle.plum_sites.proofs.Positions.{map_more, map_split, length_before}
use Rattle.plum_sites.proofs.walk.sites_below.Goals as goal

pub overflow_cast-i : goal.overflow_cast-i
overflow_cast-i g c =
    let laws = g.met.S.SiteRows in
    let few = laws.lawful_is_few (g.S.SiteRows.sites c.loop-i.sites)
    (laws.sound_is_lawful c.loop-i.sites c.loop-i.invariant.sound) in
    omega (arith, few, ltb-true _ _ laws.most_fits, c.loop-i.invariant.count)

pub overflow_add-i : goal.overflow_add-i
overflow_add-i g c =
    let laws = g.met.S.SiteRows in
    let few = laws.lawful_is_few (g.S.SiteRows.sites c.loop-i.sites)
    (laws.sound_is_lawful c.loop-i.sites c.loop-i.invariant.sound) in
    omega (arith, few, ltb-true _ _ laws.most_fits, c.loop-i.invariant.count)

pub returns-in_err-add-clause-fault : goal.returns-in_err-add-clause-fault
returns-in_err-add-clause-fault g c =
    let kind = g.S.SiteRows in
    let p = err_from_is_err_and c.from_residual.result c.from_residual.ensures.1 in
    let rows = c.args.rows.now in
    let i = c.loop-i.i in
    let row = c.index-rows-i.result in
    let split = map_split fields_of rows i row c.loop-i-test.true c.index-rows-i.is in
    let count = length_before fields_of rows i c.loop-i-test.true in
    let number : i + 2 ≡ length (map fields_of (take i rows)) + 2 = omega (arith, count) in
    rw (p.1, p.2) (if_fault c.in_err-add.field-0.0
    (kind.is_first_fault (kind.sites c.loop-i.sites) (fields_of row) (i + 2))
    (HasRowFault kind.states kind.are_lawful kind.is_first_fault (map fields_of rows))
    (λ f fault. (
      map fields_of (take i rows),
      fields_of row,
      map fields_of (drop (i + 1) rows),
      kind.sites c.loop-i.sites,
      split,
      c.loop-i.invariant.stated,
      g.met.S.SiteRows.sound_is_lawful c.loop-i.sites c.loop-i.invariant.sound,
      subst (λ n. kind.is_first_fault (kind.sites c.loop-i.sites) (fields_of row) n f) number fault,
    )) c.in_err-add.ensures.fault)

pub loop-i-preserved : goal.loop-i-preserved
loop-i-preserved g c =
    let kind = g.S.SiteRows in
    let rows = c.args.rows.now in
    let i = c.loop-i.i in
    let row = c.index-rows-i.result in
    let more = map_more fields_of rows i row c.loop-i-test.true c.index-rows-i.is in
    let site = c.in_ok-add.ensures.site in
    record {
      stated = rw (more, site.2) (all_zipped_more kind.states (map fields_of (take i rows))
          (kind.sites c.loop-i.sites) (fields_of row) site.0 c.loop-i.invariant.stated site.1);
      sound = c.in_ok-add.ensures.sound;
      count = ap length site.2 ∙ length_push (kind.sites c.loop-i.sites) site.0
          ∙ ap (λ n. n + 1) c.loop-i.invariant.count;
    }
