use Rattle.std.proofs.Common.{◌≡◌, List, length, inl, inr, sym, ◌∙◌, subst}
use Rattle.std.proofs.lemmas.List.{get_or_default}
use Rattle.plum_geo.specs.Square.{LiesAs}
use Rattle.plum_geo.specs.declared.square.Place.TheVariants.{Inside, Outside}
use Rattle.plum_pyramid.specs.declared.layout.Cell.{Cell}
use Rattle.plum_pyramid.specs.declared.layout.Member.{Member}
use Rattle.plum_pyramid.specs.Cells.{past, cell_at, HasSearched}
use Rattle.plum_pyramid.specs.Maxima.{said_at, IsGreatest, CanSay}
use Rattle.plum_pyramid.proofs.Renewals.{CanSay-all}
use Rattle.std.specs.Prelude.{All}
use Rattle.plum_geo.specs.Shown.{value_in}
use Rattle.plum_pyramid.proofs.Steps.{leave-outside, leave-lower, take-own, take-inside}
use Rattle.plum_pyramid.proofs.searching.step.Goals as goal

pub returns-in-Inside-clause-searched : goal.returns-in-Inside-clause-searched
returns-in-Inside-clause-searched c =
    let layout = c.args.layout.now in
    let here = c.args.search.next in
    let cell : Cell = c.index-cell.result.now in
    let after = c.greater_of.result in
    let end = length layout.members.items in
    let same : cell ≡ cell_at layout here =
    c.index-cell.ensures ∙ get_or_default layout.cells.items here cell (past end) c.requires.more in
    let greater = c.greater_of.ensures in
    subst (λ (k : Cell). HasSearched layout c.args.values.now c.args.place
    (record { best = after; next = k.skip })) (sym same)
    (take-inside layout c.args.values.now c.args.place c.requires.values.laid c.args.search.best
    here c.requires.more c.requires.searched (value_in c.args.maxima.now here) after
    (c.requires.maxima.each here c.requires.more)
    (subst (λ (k : Cell). LiesAs k.square c.args.place Inside) same c.in-Inside.ensures)
    greater.one greater.first greater.second)

pub returns-in-Outside-clause-searched : goal.returns-in-Outside-clause-searched
returns-in-Outside-clause-searched c =
    let layout = c.args.layout.now in
    let here = c.args.search.next in
    let best = c.args.search.best in
    let cell : Cell = c.index-cell.result.now in
    let end = length layout.members.items in
    let same : cell ≡ cell_at layout here =
    c.index-cell.ensures ∙ get_or_default layout.cells.items here cell (past end) c.requires.more in
    subst (λ (k : Cell). HasSearched layout c.args.values.now c.args.place
    (record { best = best; next = k.skip })) (sym same)
    (elim c.in-Outside.ensures [
      | inl lower ↦
          leave-lower layout c.args.values.now c.args.place c.requires.values.laid best here
          c.requires.more c.requires.searched (value_in c.args.maxima.now here)
          (c.requires.maxima.each here c.requires.more) lower
      | inr outside ↦
          leave-outside layout c.args.values.now c.args.place c.requires.values.laid best here
          c.requires.more c.requires.searched
          (subst (λ (k : Cell). LiesAs k.square c.args.place Outside) same outside)
    ])

pub returns-in-Cut-2-clause-searched : goal.returns-in-Cut-2-clause-searched
returns-in-Cut-2-clause-searched c =
    let layout = c.args.layout.now in
    let here = c.args.search.next in
    let cell : Cell = c.index-cell.result.now in
    let own = c.greatest_said_at-own.result in
    let after = c.greater_of-in-Cut-2.result in
    let end = length layout.members.items in
    let same : cell ≡ cell_at layout here =
    c.index-cell.ensures ∙ get_or_default layout.cells.items here cell (past end) c.requires.more in
    let greater = c.greater_of-in-Cut-2.ensures in
    let says = said_at c.args.values.now c.args.place in
    let run : IsGreatest says layout.members.items cell.first cell.end own =
    subst (λ (ms : List Member). IsGreatest says ms cell.first cell.end own)
    c.as_slice-members.ensures.value c.greatest_said_at-own.ensures.greatest in
    subst (λ (k : Cell). HasSearched layout c.args.values.now c.args.place
    (record { best = after; next = k.skip })) (sym same)
    (take-own layout c.args.values.now c.args.place c.requires.values.laid c.args.search.best
    here c.requires.more c.requires.searched own after
    (subst (λ (k : Cell). IsGreatest says layout.members.items k.first k.end own) same run)
    greater.one greater.first greater.second)

pub greatest_said_at-own-requires-clause-can : goal.greatest_said_at-own-requires-clause-can
greatest_said_at-own-requires-clause-can c =
    subst (λ (ms : List Member). All (CanSay c.args.values.now) ms)
    (sym c.as_slice-members.ensures.value)
    (CanSay-all c.args.layout.now c.args.values.now c.requires.values)
