use Rattle.std.proofs.Common.{◌≡◌, ℕ, None, length, get_or}
use Rattle.plum_base.specs.Sites.{CODES}
use Rattle.plum_base.proofs.ByCode.{IsFoundSoFar}
use Rattle.plum_base.proofs.codes.stations_by_code.Given as goal

abbrev pub invariant-loop-n : goal.invariant-loop-n
invariant-loop-n l = record {
  codes : length l.by_code.items ≡ CODES;
  found : (code : ℕ) → IsFoundSoFar l.stations l.n code (get_or l.by_code.items code None);
}
