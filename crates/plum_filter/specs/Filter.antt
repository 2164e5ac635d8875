-- A filter's numbers, three a stage, against whole sequences (the project's own).
use Rattle.std.specs.Prelude.{◌≡◌, ℕ, ◌+◌, ◌-◌, ◌*◌, ◌^◌, ◌≤◌, ℤ, pos, ◌+ℤ◌, ◌-ℤ◌, ◌*ℤ◌}
use Rattle.std.specs.Prelude.{unsigned_abs, List, [], ◌∷◌, ◌++◌, length}
use Rattle.std.specs.Int.{int_div_euclid}
use Rattle.plum_base.specs.declared.cascade.Stage.{Stage}
use Rattle.plum_base.specs.declared.cascade.Rounding.{Rounding}
use Rattle.plum_base.specs.declared.cascade.Rounding.TheVariants.{Floor, Nearest}
use Rattle.plum_base.specs.Cascade.{IsStage}
use Rattle.plum_filter.specs.declared.biquad.Biquad.{Biquad}
use Rattle.plum_filter.specs.Stage.{clamped, term, delayed, stage_output, cascade_output}

-- what is added to a sum before it is divided by 2^q and rounded down: half of that rounds to the
-- nearest
abbrev pub half_of : Rounding → ℕ → ℕ
half_of Floor q = 0
half_of Nearest q = 2 ^ (q - 1)

-- The stage is in its ranges, the half is that of its rounding, and the two sums are of at most
-- four, and two, products and the half.
pub record IsBiquad (b : Biquad) : Type 0 where
  pub stage : IsStage b.stage
  pub half : b.half ≡ pos (half_of b.stage.round b.stage.q)
  pub next : unsigned_abs b.next ≤ 4 * 2 ^ 60 + 2 ^ 29
  pub later : unsigned_abs b.later ≤ 2 * 2 ^ 60 + 2 ^ 29

-- what it answers to one term more of its input
abbrev pub answer_of : Biquad → ℤ → ℤ
answer_of b x =
    clamped (int_div_euclid (b.next +ℤ b.stage.b0 *ℤ x) (pos (2 ^ b.stage.q)))

-- what it holds after that
abbrev pub moved_on : Biquad → ℤ → Biquad
moved_on b x =
    let y = answer_of b x in
    record {
      stage = b.stage;
      half = b.half;
      next = b.later +ℤ (b.stage.b1 *ℤ x -ℤ b.stage.a1 *ℤ y);
      later = b.half +ℤ (b.stage.b2 *ℤ x -ℤ b.stage.a2 *ℤ y);
    }

-- a stage whose last terms are these, newest first: the sum of its next answer lacks only the
-- newest term, and that of the one after it what the next step adds
abbrev pub biquad_at : Stage → (x1 x2 y1 y2 : ℤ) → Biquad
biquad_at s x1 x2 y1 y2 =
    let half = pos (half_of s.round s.q) in
    record {
      stage = s;
      half = half;
      next = half +ℤ (s.b2 *ℤ x2 -ℤ s.a2 *ℤ y2) +ℤ (s.b1 *ℤ x1 -ℤ s.a1 *ℤ y1);
      later = half +ℤ (s.b2 *ℤ x1 -ℤ s.a2 *ℤ y1);
    }

-- a stage that has answered ys to xs: its last terms are the two last of each, or 0
abbrev pub biquad_after : Stage → List ℤ → List ℤ → Biquad
biquad_after s xs ys =
    biquad_at s (term (delayed xs) (length xs)) (term (delayed (delayed xs)) (length xs))
    (term (delayed ys) (length ys)) (term (delayed (delayed ys)) (length ys))

-- a stage before its first term
unfoldable pub new_biquad : Stage → Biquad
new_biquad stage = biquad_after stage [] []

-- each stage of a cascade after the cascade was given xs: its input is the output of the one before
abbrev pub biquads_after : List Stage → List ℤ → List Biquad
biquads_after [] xs = []
biquads_after (stage ∷ stages) xs =
    let ys = stage_output stage xs in biquad_after stage xs ys ∷ biquads_after stages ys

-- A filter of this cascade was given these inputs since it was made or reset.
abbrev pub StandsFor : List Biquad → List Stage → List ℤ → Type 0
StandsFor filter cascade inputs = filter ≡ biquads_after cascade inputs

-- One input more: what stood for the inputs before stands for them and this one, and the cascade's
-- output over all of them is the one before and this answer.
pub record JoinsInput (before after : List Biquad) (x answer : ℤ) : Type 0 where
  pub stands : (cascade : List Stage) (inputs : List ℤ) → StandsFor before cascade inputs
      → StandsFor after cascade (inputs ++ x ∷ [])
  pub output : (cascade : List Stage) (inputs : List ℤ) → StandsFor before cascade inputs
      → cascade_output cascade (inputs ++ x ∷ []) ≡ cascade_output cascade inputs ++ answer ∷ []
