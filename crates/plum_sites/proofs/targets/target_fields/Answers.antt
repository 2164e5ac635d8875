use Rattle.std.proofs.Common.{arith, sym, ◌∙◌}
use Rattle.csv.specs.Records.{fields_of}
use Rattle.plum_sites.proofs.Rows.{absent, five}
use Rattle.plum_sites.proofs.targets.target_fields.Goals as goal

pub returns-in_err-get-clause-none : goal.returns-in_err-get-clause-none
returns-in_err-get-clause-none c =
    rw c.from_residual.ensures (absent (fields_of c.args.row.now) 0 5
    (sym c.in_err-get.ensures.value) (omega arith))

pub returns-in_err-get-2-clause-none : goal.returns-in_err-get-2-clause-none
returns-in_err-get-2-clause-none c =
    rw c.from_residual-in_err-get-2.ensures (absent (fields_of c.args.row.now) 1 5
    (sym c.in_err-get-2.ensures.value) (omega arith))

pub returns-in_err-get-3-clause-none : goal.returns-in_err-get-3-clause-none
returns-in_err-get-3-clause-none c =
    rw c.from_residual-in_err-get-3.ensures (absent (fields_of c.args.row.now) 2 5
    (sym c.in_err-get-3.ensures.value) (omega arith))

pub returns-in_err-get-4-clause-none : goal.returns-in_err-get-4-clause-none
returns-in_err-get-4-clause-none c =
    rw c.from_residual-in_err-get-4.ensures (absent (fields_of c.args.row.now) 3 5
    (sym c.in_err-get-4.ensures.value) (omega arith))

pub returns-in_err-get-5-clause-none : goal.returns-in_err-get-5-clause-none
returns-in_err-get-5-clause-none c =
    rw c.from_residual-in_err-get-5.ensures (absent (fields_of c.args.row.now) 4 5
    (sym c.in_err-get-5.ensures.value) (omega arith))

pub returns-clause-fields : goal.returns-clause-fields
returns-clause-fields c =
    five (fields_of c.args.row.now) _ _ _ _ _ (sym c.len.ensures ∙ c.if-len-ne5.false)
    (sym c.in_ok-get.ensures.value) (sym c.in_ok-get-2.ensures.value)
    (sym c.in_ok-get-3.ensures.value) (sym c.in_ok-get-4.ensures.value)
    (sym c.in_ok-get-5.ensures.value)
