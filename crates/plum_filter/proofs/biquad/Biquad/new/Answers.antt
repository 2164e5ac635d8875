use Rattle.std.proofs.Common.{w64, to_z-of_z, FitsSigned, rules}
use Rattle.plum_filter.proofs.Biquads.{new_biquad_is}
use Rattle.plum_filter.proofs.biquad.Biquad.new.Goals as goal

pub returns-clause-value : goal.returns-clause-value
returns-clause-value c =
    let half : FitsSigned w64 c.half_of-half.result = search rules in
    simp to_z-of_z (new_biquad_is c.args.stage _ c.half_of-half.ensures)
