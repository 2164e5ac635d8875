use Rattle.std.proofs.Common.{ap, sym, subst, length, All, refl, ◌∷◌, []}
use Rattle.plum_sites.specs.Fields.{Spells, IsNumber}
use Rattle.std.specs.List.{AllZip}
use Rattle.plum_sites.proofs.stations.station_of_row.Goals as goal

pub returns-in_default-station_numbers-clause-fault
    : goal.returns-in_default-station_numbers-clause-fault
returns-in_default-station_numbers-clause-fault c before =
    let is = c.in-Some.ensures.fields in (
      refl,
      ap length is,
      λ all. c.in_default-station_numbers.ensures.none
          (subst (λ row. All IsNumber row) is all),
    )

pub returns-in_default-station_of-clause-fault : goal.returns-in_default-station_of-clause-fault
returns-in_default-station_of-clause-fault c before =
    let is = c.in-Some.ensures.fields in
    let n = c.in-Some-station_numbers.numbers in
    let spelled = subst (λ row. AllZip Spells row (n.code ∷ n.x ∷ n.y ∷ n.factor ∷ [])) (sym is)
    c.in-Some-station_numbers.ensures.numbers in
    (refl, n.code, n.x, n.y, n.factor, spelled, c.in_default-station_of.ensures.none)
