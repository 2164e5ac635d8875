-- The search for a level by halves, in thresholds that do not fall.
use Rattle.std.proofs.Common.{◌≡◌, ℕ, ◌+◌, ◌-◌, ◌*◌, ◌/◌, ◌<◌, ◌≤◌, Bool, true, false, List, length}
use Rattle.std.proofs.Common.{get_or, leb, leb-true, leb-false, ◌∙◌, arith}
use Rattle.std.specs.Int.{from_bool}
use Rattle.std.specs.List.Sorted.{IsNonDecreasing}
use Rattle.plum_level.specs.Level.{sample_level}
use Rattle.plum_level.proofs.Samples.{reached_by, reached_by-up_to}

-- The level of a sample is one of so many, from this one on.
pub record IsAmong (ts : List ℕ) (a first width : ℕ) : Type 0 where
  pub within : first + width ≤ length ts
  pub least : first ≤ sample_level ts a
  pub most : sample_level ts a < first + width

module _ (ts : List ℕ) (order : IsNonDecreasing ts) (a first width : ℕ) (wide : 1 < width)
    (among : IsAmong ts a first width) where
  abbrev middle : ℕ
  middle = first + width / 2

  -- It is in the half that the comparison tells.
  pub IsAmong-half : (reaches : Bool) → leb (get_or ts middle 0) a ≡ reaches
      → IsAmong ts a (first + width / 2 * from_bool reaches) (width - width / 2)
  IsAmong-half true is =
      let here = reached_by-up_to ts order a middle (omega (arith, among.within)) ∙ is in
      let passed = leb-true (middle + 1) (reached_by ts a) here in
      record {
        within = omega (arith, among.within);
        least = omega arith;
        most = omega (arith, among.most);
      }
  IsAmong-half false is =
      let here = reached_by-up_to ts order a middle (omega (arith, among.within)) ∙ is in
      let short = leb-false (middle + 1) (reached_by ts a) here in
      record {
        within = omega (arith, among.within);
        least = omega (arith, among.least);
        most = omega arith;
      }
