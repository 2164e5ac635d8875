use Rattle.std.proofs.Common.{ap, sym, subst, length, take, drop, All, refl, ◌∷◌, []}
use Rattle.plum_sites.specs.Fields.{Spells, IsNumber}
use Rattle.std.specs.List.{AllZip}
use Rattle.plum_sites.proofs.targets.target_of_row.Goals as goal

pub returns-in_default-target_numbers-clause-fault
    : goal.returns-in_default-target_numbers-clause-fault
returns-in_default-target_numbers-clause-fault c before =
    let is = c.in-Some.ensures.fields in (
      refl,
      ap length is,
      λ all. c.in_default-target_numbers.ensures.none
          (subst (λ row. All IsNumber (drop 2 row)) is all),
    )

pub returns-in_default-target_of-clause-fault : goal.returns-in_default-target_of-clause-fault
returns-in_default-target_of-clause-fault c before =
    let is = c.in-Some.ensures.fields in
    let n = c.in-Some-target_numbers.numbers in
    let spelled = subst (λ row. AllZip Spells (drop 2 row) (n.x ∷ n.y ∷ n.factor ∷ [])) (sym is)
    c.in-Some-target_numbers.ensures.numbers in (
      refl,
      c.in-Some.fields.name.now,
      c.in-Some.fields.area.now,
      n.x,
      n.y,
      n.factor,
      ap (take 2) is,
      spelled,
      c.in_default-target_of.ensures.none,
    )
