use Rattle.std.proofs.Common.{[], arith}
use Rattle.plum_sites.proofs.stations.station_numbers.Goals as goal

pub returns-in_err-number_read-2-clause-none : goal.returns-in_err-number_read-2-clause-none
returns-in_err-number_read-2-clause-none c =
    rw c.from_residual-in_err-number_read-2.ensures
    (λ all. c.in_err-number_read-2.ensures.none (all 1 [] (omega arith)))

pub returns-in_err-number_read-3-clause-none : goal.returns-in_err-number_read-3-clause-none
returns-in_err-number_read-3-clause-none c =
    rw c.from_residual-in_err-number_read-3.ensures
    (λ all. c.in_err-number_read-3.ensures.none (all 2 [] (omega arith)))

pub returns-in_err-number_read-4-clause-none : goal.returns-in_err-number_read-4-clause-none
returns-in_err-number_read-4-clause-none c =
    rw c.from_residual-in_err-number_read-4.ensures
    (λ all. c.in_err-number_read-4.ensures.none (all 3 [] (omega arith)))
