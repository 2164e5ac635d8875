-- The output of one stage and of a cascade, over whole sequences: the recursive filters of Kunugi
-- and others (2013), in the project's own fixed point.
use Rattle.std.specs.Prelude.{◌≡◌, ℕ, ◌-◌, ◌^◌, ◌<◌, ℤ, pos, neg_ℤ, ◌+ℤ◌, ◌-ℤ◌, ◌*ℤ◌}
use Rattle.std.specs.Prelude.{List, [], ◌∷◌, length, slice_index_or}
use Rattle.std.specs.Int.{int_min, int_max, int_div_euclid}
use Rattle.plum_base.specs.declared.cascade.Stage.{Stage}
use Rattle.plum_base.specs.declared.cascade.Rounding.{Rounding}
use Rattle.plum_base.specs.declared.cascade.Rounding.TheVariants.{Floor, Nearest}
use Rattle.plum_base.specs.Bounds.{IsUpTo}

-- the greatest term (the project's own)
abbrev pub GREATEST_TERM : ℕ
GREATEST_TERM = 2 ^ 30

-- a term of a stage's input or output: from -2^30 to 2^30
abbrev pub IsTerm : ℤ → Type 0
IsTerm z = IsUpTo GREATEST_TERM z

-- cut to -2^30 at the low end and to 2^30 at the high end (the project's own)
abbrev pub clamped : ℤ → ℤ
clamped z = int_max (neg_ℤ (pos GREATEST_TERM)) (int_min z (pos GREATEST_TERM))

-- A sum divided by 2^q: rounded down, or to the nearest with halves up (the project's own). At a
-- positive divisor Euclid's quotient is the one rounded down.
abbrev pub rounded : Rounding → ℤ → ℕ → ℤ
rounded Floor sum q = int_div_euclid sum (pos (2 ^ q))
rounded Nearest sum q = int_div_euclid (sum +ℤ pos (2 ^ (q - 1))) (pos (2 ^ q))

-- The sum of the stage equation, before it is divided (a recursive filter of second order): x0 is
-- the term of the input, x1 and x2 are the two before it, and y1 and y2 the two last terms of the
-- output, newest first.
abbrev pub weighted : Stage → (x0 x1 x2 y1 y2 : ℤ) → ℤ
weighted s x0 x1 x2 y1 y2 = s.b0 *ℤ x0 +ℤ s.b1 *ℤ x1 +ℤ s.b2 *ℤ x2 -ℤ s.a1 *ℤ y1 -ℤ s.a2 *ℤ y2

-- The stage equation: what the stage answers to x0.
abbrev pub answer_to : Stage → (x0 x1 x2 y1 y2 : ℤ) → ℤ
answer_to s x0 x1 x2 y1 y2 = clamped (rounded s.round (weighted s x0 x1 x2 y1 y2) s.q)

-- the term of a sequence at an index, from 0
abbrev pub term : List ℤ → ℕ → ℤ
term xs n = slice_index_or xs n (pos 0)

-- A sequence delayed by one step. Its term at an index is the sequence's term before that index,
-- and 0 at the first.
abbrev pub delayed : List ℤ → List ℤ
delayed xs = pos 0 ∷ xs

-- The output of a stage (Kunugi and others 2013) is as long as its input and meets the stage
-- equation at every index, where terms before the first are 0.
pub record IsStageOutput (stage : Stage) (xs ys : List ℤ) : Type 0 where
  pub as_long : length ys ≡ length xs
  pub equation : (n : ℕ) → n < length xs
      → term ys n ≡ answer_to stage
      (term xs n) (term (delayed xs) n) (term (delayed (delayed xs)) n)
      (term (delayed ys) n) (term (delayed (delayed ys)) n)

-- the output from some index on, where x1, x2, y1 and y2 are the terms before it
abbrev pub output_after : Stage → (x1 x2 y1 y2 : ℤ) → List ℤ → List ℤ
output_after s x1 x2 y1 y2 [] = []
output_after s x1 x2 y1 y2 (x ∷ xs) =
    let y = answer_to s x x1 x2 y1 y2 in y ∷ output_after s x x1 y y1 xs

-- the output of a stage, as a function of its whole input
unfoldable pub stage_output : Stage → List ℤ → List ℤ
stage_output stage xs = output_after stage (pos 0) (pos 0) (pos 0) (pos 0) xs

-- The output of a cascade (Kunugi and others 2013): the first stage is applied to the input, and
-- each further one to the whole output of the one before it.
abbrev pub cascade_output : List Stage → List ℤ → List ℤ
cascade_output [] xs = xs
cascade_output (stage ∷ stages) xs = cascade_output stages (stage_output stage xs)

-- There is exactly one output of a stage, and the function gives it: what is an output is what it
-- gives ..
abbrev pub OneOutput : Type 0
OneOutput = (stage : Stage) (xs ys : List ℤ) → IsStageOutput stage xs ys
    → ys ≡ stage_output stage xs

-- .. and what it gives is an output.
abbrev pub OutputIs : Type 0
OutputIs = (stage : Stage) (xs : List ℤ) → IsStageOutput stage xs (stage_output stage xs)

-- The output of a cascade is as long as its input.
abbrev pub AsLong : Type 0
AsLong = (stages : List Stage) (xs : List ℤ) → length (cascade_output stages xs) ≡ length xs
