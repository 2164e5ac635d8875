use Rattle.std.proofs.Common.{◌≡◌, List, length, replicate, Option, None, sym, ap, subst, ◌∙◌}
use Rattle.std.proofs.Common.{rules}
use Rattle.std.proofs.lemmas.List.{length-replicate}
use Rattle.plum_base.specs.declared.numbers.Tenths.{Tenths}
use Rattle.plum_geo.specs.Shown.{value_in}
use Rattle.plum_pyramid.specs.Cells.{HasValues, AreMaxima}
use Rattle.plum_pyramid.proofs.Wholes.{none-in, HasValues-none, AreMaxima-none}
use Rattle.plum_pyramid.proofs.pyramid.Pyramid.new.Goals as goal

pub invariant_of-result : goal.invariant_of-result
invariant_of-result c =
    let layout = c.in_ok-layout.layout in
    let stations = length layout.stations.items in
    let cells = length layout.cells.items in
    let values : c.in_ok-values.values.items ≡ replicate stations None = search rules in
    let maxima : c.in_ok-maxima.maxima.items ≡ replicate cells None = search rules in
    let laid = c.in_ok-layout.ensures.laid in (
      subst (λ (vs : List (Option Tenths)). HasValues layout vs) (sym values)
          (HasValues-none layout laid),
      subst (λ (vs : List (Option Tenths)). AreMaxima layout vs c.in_ok-maxima.maxima.items)
          (sym values)
          (subst (λ (ms : List (Option Tenths)). AreMaxima layout (replicate stations None) ms)
          (sym maxima) (AreMaxima-none layout laid stations cells (search rules))),
    )

pub returns-clause-stands : goal.returns-clause-stands
returns-clause-stands c =
    let layout = c.in_ok-layout.layout in
    let stations = length layout.stations.items in
    let values : c.in_ok-values.values.items ≡ replicate stations None = search rules in
    let same = c.in_ok-layout.ensures.stations ∙ c.stations.ensures.value in
    record {
      same_stations = same;
      count = ap length values ∙ length-replicate stations None ∙ ap length same;
      each = λ n. ap (λ (vs : List (Option Tenths)). value_in vs n) values ∙ none-in stations n;
    }
