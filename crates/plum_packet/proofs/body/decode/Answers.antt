use Rattle.std.proofs.Common.{arith}
use Rattle.std.proofs.lemmas.Result.{err_from_is_err_and}
use Rattle.plum_packet.proofs.FirstFault.{few_samples, whole_length}
use Rattle.plum_packet.proofs.body.decode.Goals as goal

pub returns-in_err-head-clause-fault : goal.returns-in_err-head-clause-fault
returns-in_err-head-clause-fault c =
    let p = err_from_is_err_and c.from_residual.result c.from_residual.ensures.1 in
    λ fault.
    let told = c.in_err-head.ensures.fault fault in
    (λ e. told.0 cc, λ first. let same = told.1 first in cc)

pub wave_of-requires-clause-few : goal.wave_of-requires-clause-few
wave_of-requires-clause-few c =
    let head = c.in_ok-head.ensures.head in
    let few = few_samples c.args.sites.now.stations c.args.bytes.now head.lawful in
    omega (arith, few, head.count)

pub wave_of-requires-clause-whole : goal.wave_of-requires-clause-whole
wave_of-requires-clause-whole c =
    let head = c.in_ok-head.ensures.head in
    let whole = whole_length c.args.sites.now.stations c.args.bytes.now head.lawful in
    omega (arith, whole, head.count)
