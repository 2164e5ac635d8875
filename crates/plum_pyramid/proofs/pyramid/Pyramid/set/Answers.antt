use Rattle.std.proofs.Common.{◌≡◌, ◌∙◌, List, [], ◌∷◌, ◌++◌, length, set, Option, sym, ap, subst, arith}
use Rattle.std.proofs.Common.{length-set}
use Rattle.std.proofs.lemmas.List.{with_items_is, set-get_or}
use Rattle.plum_base.specs.declared.numbers.Tenths.{Tenths}
use Rattle.plum_pyramid.specs.Cells.{HasValues, AreMaxima, AreMaximaWithout, IsRenewed}
use Rattle.plum_pyramid.specs.Pyramid.{PyramidView, Setting, StandsFor, pyramid_after}
use Rattle.plum_pyramid.proofs.Renewals.{AreMaximaWithout-set}
use Rattle.plum_pyramid.proofs.Sets.{StandsFor-set}
use Rattle.plum_pyramid.proofs.Wholes.{HasValues-set, cells-some, AreMaxima-renewed}
use Rattle.plum_pyramid.proofs.pyramid.Pyramid.set.Goals as goal

pub renew-requires-clause-values : goal.renew-requires-clause-values
renew-requires-clause-values c =
    let has = c.self.invariant.0 in
    subst (λ (vs : List (Option Tenths)). HasValues c.self.inside.layout vs)
    (sym c.as_slice.ensures.value)
    (HasValues-set c.self.inside.layout has.laid c.self.inside.values.items c.args.station.0
    c.args.value c.requires.scale has)

pub renew-requires-clause-station : goal.renew-requires-clause-station
renew-requires-clause-station c =
    let values = c.self.inside.values.items in
    let count = c.self.invariant.0.count in
    let stations = ap (λ (p : PyramidView). length p.stations) c.self.view_is in
    let exists = c.requires.exists in
    let same = length-set values c.args.station.0 c.args.value in
    let as_long = ap length c.as_slice.ensures.value in
    omega arith

pub renew-requires-clause-cell : goal.renew-requires-clause-cell
renew-requires-clause-cell c =
    let stations = ap (λ (p : PyramidView). length p.stations) c.self.view_is in
    let exists = c.requires.exists in
    cells-some c.self.inside.layout c.self.invariant.0.laid c.args.station.0 (omega arith)

pub renew-requires-clause-maxima : goal.renew-requires-clause-maxima
renew-requires-clause-maxima c =
    let layout = c.self.inside.layout in
    let values = c.self.inside.values.items in
    let number = c.args.station.0 in
    subst (λ (vs : List (Option Tenths)).
    AreMaximaWithout layout vs c.as_mut_slice.result.now number)
    (sym c.as_slice.ensures.value)
    (subst (λ (ms : List (Option Tenths)).
    AreMaximaWithout layout (set values number c.args.value) ms number)
    (sym c.as_mut_slice.ensures.value)
    (AreMaximaWithout-set layout values c.self.inside.maxima.items number c.args.value
    c.self.invariant.1))

pub invariant_of-self : goal.invariant_of-self
invariant_of-self c =
    let layout = c.self.inside.layout in
    let has = c.self.invariant.0 in
    let laid = has.laid in
    let values = c.self.inside.values.items in
    let old = c.self.inside.maxima.items in
    let new = c.renew.new.maxima in
    let set_values = set values c.args.station.0 c.args.value in
    let count = c.self.invariant.1.count in
    let before = ap length c.as_mut_slice.ensures.value in
    let as_long : length new ≡ length old = omega arith in
    let renewed : IsRenewed layout set_values c.as_mut_slice.result.now new 0 =
    subst (λ (vs : List (Option Tenths)). IsRenewed layout vs c.as_mut_slice.result.now new 0)
    c.as_slice.ensures.value c.renew.ensures in
    let maxima : AreMaxima layout set_values new =
    AreMaxima-renewed layout laid set_values c.as_mut_slice.result.now new (omega arith) renewed
    in (
      HasValues-set layout laid values c.args.station.0 c.args.value c.requires.scale has,
      subst (λ (ms : List (Option Tenths)). AreMaxima layout set_values ms)
          (sym (with_items_is c.self.inside.maxima new (omega arith))) maxima,
    )

pub returns-clause-exact : goal.returns-clause-exact
returns-clause-exact c =
    let s : Setting = record { station = c.args.station; value = c.args.value } in
    ap (λ (p : PyramidView). pyramid_after p s) c.self.view_is

pub returns-clause-stands : goal.returns-clause-stands
returns-clause-stands c = λ stations settings stands.
    let s : Setting = record { station = c.args.station; value = c.args.value } in
    let exact = ap (λ (p : PyramidView). pyramid_after p s) c.self.view_is in
    let exists = c.requires.exists in
    let same = ap length stands.same_stations in
    subst (λ (p : PyramidView). StandsFor p stations (settings ++ s ∷ [])) (sym exact)
    (StandsFor-set c.args.self.now stations settings s (omega arith) stands)

-- The station has the value, and each square its maximum.
stays : (c : goal.Then-is_same) → c.args.self.now ≡ pyramid_after c.args.self.now
    (record { station = c.args.station; value = c.args.value })
stays c =
    let s : Setting = record { station = c.args.station; value = c.args.value } in
    let stations = c.self.inside.layout.stations.items in
    let values = c.self.inside.values.items in
    let found = c.index.result.now in
    let number = c.args.station.0 in
    let unchanged : set values number found ≡ values =
    ap (λ v. set values number v) c.index.ensures ∙ set-get_or values number found in
    let same : set values number c.args.value ≡ values =
    subst (λ v. set values number v ≡ values) (c.is_same.ensures c.if-is_same.true) unchanged in
    subst (λ (p : PyramidView). p ≡ pyramid_after p s) c.self.view_is
    (ap (λ (vs : List (Option Tenths)). record { stations = stations; values = vs })
    (sym same))

pub returns-then-is_same-clause-exact : goal.returns-then-is_same-clause-exact
returns-then-is_same-clause-exact c = stays c

pub returns-then-is_same-clause-stands : goal.returns-then-is_same-clause-stands
returns-then-is_same-clause-stands c = λ stations settings stands.
    let s : Setting = record { station = c.args.station; value = c.args.value } in
    let exists = c.requires.exists in
    let same = ap length stands.same_stations in
    subst (λ (p : PyramidView). StandsFor p stations (settings ++ s ∷ [])) (sym (stays c))
    (StandsFor-set c.args.self.now stations settings s (omega arith) stands)
