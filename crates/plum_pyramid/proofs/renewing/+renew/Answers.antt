use Rattle.std.proofs.Common.{◌≡◌, ℕ, ◌+◌, ◌<◌, ◌≤◌, List, length, Some, None, refl, sym, ap, subst}
use Rattle.std.proofs.Common.{arith}
use Rattle.std.proofs.lemmas.Bool.{iff_false}
use Rattle.std.proofs.lemmas.Option.{slice_get_read}
use Rattle.std.specs.Prelude.{slice_get, All}
use Rattle.plum_base.specs.declared.sites.StationSite.{StationSite}
use Rattle.plum_geo.specs.Square.{IsSquare, IsWithin}
use Rattle.plum_pyramid.specs.declared.layout.Cell.{Cell}
use Rattle.plum_pyramid.specs.declared.layout.Member.{Member}
use Rattle.plum_pyramid.specs.Maxima.{said, IsGreatest, CanSay}
use Rattle.plum_pyramid.specs.Cells.{cell_at, IsMaximum}
use Rattle.plum_pyramid.proofs.Greatest.{IsGreatest-nil, IsGreatest-ends}
use Rattle.plum_pyramid.proofs.Renewals.{CanSay-all, IsWithout-away, IsRenewed-without}
use Rattle.plum_pyramid.proofs.Renewals.{IsRenewed-with}
use Rattle.plum_pyramid.proofs.Renewals.{next-ahead, next-within, greatest-parts, right-parts}
use Rattle.plum_pyramid.proofs.Renewals.{without-parts, beyond-parts, maximum-parts, cell_read}
use Rattle.plum_pyramid.proofs.renewing.+renew.Goals as goal

pub holds-requires : goal.holds-requires
holds-requires t c =
    let layout = c.args.layout.now in
    let laid = c.requires.values.laid in
    let same = cell_read layout c.args.here c.index-cell.result.now c.requires.cell
    c.index-cell.ensures in
    subst (λ (k : Cell). IsSquare k.square) (sym same)
    (laid.cells.each c.args.here (omega arith) c.requires.cell).square

pub returns-then-not-holds : goal.returns-then-not-holds
returns-then-not-holds t c =
    let layout = c.args.layout.now in
    let laid = c.requires.values.laid in
    let count = c.requires.values.count in
    let site : StationSite = c.index.result.now in
    let stations : List StationSite = layout.stations.items in
    let within : c.args.station.0 < length stations = omega arith in
    let there : slice_get stations c.args.station.0 ≡ Some site =
    slice_get_read stations (length stations) c.args.station.0 site refl within c.index.ensures in
    let same = cell_read layout c.args.here c.index-cell.result.now c.requires.cell
    c.index-cell.ensures in
    let away = iff_false c.holds.ensures c.if-not-holds.true in
    IsRenewed-without layout laid c.args.values.now c.args.maxima.now c.args.station.0 c.args.here
    c.requires.cell c.requires.maxima
    (IsWithout-away layout laid c.args.station.0 site there c.args.here c.requires.cell
    (λ inside. away (subst (λ (k : Cell). IsWithin site.at k.square) (sym same) inside)))

pub greatest_said-requires-clause-can : goal.greatest_said-requires-clause-can
greatest_said-requires-clause-can t c =
    subst (λ (ms : List Member). All (CanSay c.args.values.now) ms) (sym c.as_slice.ensures.value)
    (CanSay-all c.args.layout.now c.args.values.now c.requires.values)

pub greatest_said-requires-clause-run : goal.greatest_said-requires-clause-run
greatest_said-requires-clause-run t c =
    let layout = c.args.layout.now in
    let same = cell_read layout c.args.here c.index-cell.result.now c.requires.cell
    c.index-cell.ensures in
    subst (λ (k : Cell). k.first ≤ k.end) (sym same)
    (c.requires.values.laid.cells.each c.args.here (omega arith) c.requires.cell).run

pub greatest_said-requires-clause-bound : goal.greatest_said-requires-clause-bound
greatest_said-requires-clause-bound t c =
    let layout = c.args.layout.now in
    let same = cell_read layout c.args.here c.index-cell.result.now c.requires.cell
    c.index-cell.ensures in
    subst (λ (ms : List Member). c.index-cell.result.now.end ≤ length ms)
    (sym c.as_slice.ensures.value)
    (subst (λ (k : Cell). k.end ≤ length layout.members.items) (sym same)
    (c.requires.values.laid.cells.each c.args.here (omega arith) c.requires.cell).bound)

pub returns-then-cell-here : goal.returns-then-cell-here
returns-then-cell-here t c =
    let layout = c.args.layout.now in
    let values = c.args.values.now in
    let maxima = c.args.maxima.now in
    let here = c.args.here in
    let cell : Cell = c.index-cell.result.now in
    let own = c.greatest_said.result in
    let same = cell_read layout here cell c.requires.cell c.index-cell.ensures in
    let skips = ap (λ (k : Cell). k.skip) same in
    let leaf = c.if-cell-here.true in
    let count = c.requires.maxima.count in
    let below = c.requires.cell in
    let run : IsGreatest (said values) layout.members.items cell.first cell.end own =
    subst (λ (ms : List Member). IsGreatest (said values) ms cell.first cell.end own)
    c.as_slice.ensures.value c.greatest_said.ensures.greatest in
    let maximum : IsMaximum layout values here own =
    subst (λ (k : Cell). IsGreatest (said values) layout.members.items k.first k.end own) same
    run in
    IsRenewed-with layout values maxima maxima here own (omega arith) maximum
    (λ j low high. absurd (omega arith)) (λ j away. refl) (omega arith)

pub loop-part-init : goal.loop-part-init
loop-part-init t c =
    let layout = c.args.layout.now in
    let here = c.args.here in
    let same = cell_read layout here c.index-cell.result.now c.requires.cell
    c.index-cell.ensures in
    let skips = ap (λ (k : Cell). k.skip) same in
    let is = c.requires.values.laid.cells.each here (omega arith) c.requires.cell in
    let ahead = is.ahead in
    let not_leaf = c.if-cell-here.false in
    let inner : here + 1 < (cell_at layout here).skip = omega arith in
    let first : ℕ = (cell_at layout here).first in
    record {
      low = omega arith;
      high = omega arith;
      greatest =
          IsGreatest-ends (said c.args.values.now) layout.members.items first first first
          (cell_at layout (here + 1)).first None refl (sym (is.inner inner))
          (IsGreatest-nil (said c.args.values.now) layout.members.items first first (omega arith));
      right = λ j low high. absurd (omega arith);
      without = c.requires.maxima;
      beyond = λ j away. refl;
    }

pub loop-part-preserved : goal.loop-part-preserved
loop-part-preserved t c =
    let layout = c.args.layout.now in
    let laid = c.requires.values.laid in
    let values = c.args.values.now in
    let here = c.args.here in
    let part = c.loop-part.part in
    let so_far = c.loop-part.invariant in
    let below = c.requires.cell in
    let low = so_far.low in
    let high = so_far.high in
    let same = cell_read layout here c.index-cell.result.now below c.index-cell.ensures in
    let skips = ap (λ (k : Cell). k.skip) same in
    let test = c.loop-part-test.true in
    let inside : part < (cell_at layout here).skip = omega arith in
    let bounded = (laid.cells.each here (omega arith) below).bounded in
    let part_below : part < length layout.cells.items = omega arith in
    let same_part = cell_read layout part c.index-in-loop-part.result.now part_below
    c.index-in-loop-part.ensures in
    let next = c.index-in-loop-part.result.now.skip in
    let is_next = ap (λ (k : Cell). k.skip) same_part in
    let before = c.loop-part.maxima in
    let after = c.renew.new.maxima in
    let renewed = c.renew.ensures in
    let greater = c.greater_of-greatest.ensures in
    let ahead = next-ahead layout laid values before after c.args.station.0 here part next below low
    inside is_next renewed in
    record {
      low = omega arith;
      high =
          next-within layout laid values before after c.args.station.0 here part next below low
          inside is_next renewed;
      greatest =
          greatest-parts layout laid values before after c.args.station.0 here part next below low
          inside is_next renewed c.loop-part.greatest c.greater_of-greatest.result so_far.greatest
          greater.one greater.first greater.second;
      right =
          right-parts layout laid values before after c.args.station.0 here part next below low
          inside is_next renewed so_far.right;
      without =
          without-parts layout laid values before after c.args.station.0 here part next below low
          inside is_next renewed so_far.without (omega arith);
      beyond =
          beyond-parts layout laid values before after c.args.station.0 here part next below low
          inside is_next renewed c.args.maxima.now so_far.beyond;
    }

pub returns : goal.returns
returns t c =
    let layout = c.args.layout.now in
    let laid = c.requires.values.laid in
    let values = c.args.values.now in
    let here = c.args.here in
    let part = c.loop-part.part in
    let so_far = c.loop-part.invariant in
    let high = so_far.high in
    let below = c.requires.cell in
    let same = cell_read layout here c.index-cell.result.now below c.index-cell.ensures in
    let skips = ap (λ (k : Cell). k.skip) same in
    let test = c.loop-part-test.false in
    let all : part ≡ (cell_at layout here).skip = omega arith in
    let count = so_far.without.count in
    let right = λ (j : ℕ) (low : here < j) (up : j < (cell_at layout here).skip).
    so_far.right j low (omega arith) in
    IsRenewed-with layout values c.args.maxima.now c.loop-part.maxima here c.loop-part.greatest
    (omega arith)
    (maximum-parts layout laid values here part c.loop-part.greatest below all so_far.greatest)
    right so_far.beyond (laid.cells.each here (omega arith) below).ahead
