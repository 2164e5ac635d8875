-- The one output of a stage, and the output of one input more.
use Rattle.std.proofs.Common.{◌≡◌, ℕ, zero, suc, ◌<◌, ℤ, pos, List, [], ◌∷◌, ◌++◌, length}
use Rattle.std.proofs.Common.{refl, ◌∙◌, ap, arith}
use Rattle.plum_base.specs.declared.cascade.Stage.{Stage}
use Rattle.plum_filter.specs.Stage.{answer_to, term, delayed, IsStageOutput, output_after}
use Rattle.plum_filter.specs.Stage.{stage_output, cascade_output}

-- The stage equation term every index, where x1, x2, y1 and y2 are the terms before the first.
record IsOutputAfter (s : Stage) (x1 x2 y1 y2 : ℤ) (xs ys : List ℤ) : Type 0 where
  pub as_long : length ys ≡ length xs
  pub equation : (n : ℕ) → n < length xs
      → term ys n ≡ answer_to s (term xs n) (term (x1 ∷ xs) n) (term (x2 ∷ x1 ∷ xs) n)
      (term (y1 ∷ ys) n) (term (y2 ∷ y1 ∷ ys) n)

-- what the function gives is as long as its input
length-output_after : (s : Stage) (x1 x2 y1 y2 : ℤ) (xs : List ℤ)
    → length (output_after s x1 x2 y1 y2 xs) ≡ length xs
length-output_after s x1 x2 y1 y2 [] = refl
length-output_after s x1 x2 y1 y2 (x ∷ xs) =
    ap suc (length-output_after s x x1 (answer_to s x x1 x2 y1 y2) y1 xs)

-- What the function gives meets the equation.
output_after-equation : (s : Stage) (x1 x2 y1 y2 : ℤ) (xs : List ℤ) (n : ℕ) → n < length xs
    → let ys = output_after s x1 x2 y1 y2 xs in
    term ys n ≡ answer_to s (term xs n) (term (x1 ∷ xs) n) (term (x2 ∷ x1 ∷ xs) n)
    (term (y1 ∷ ys) n) (term (y2 ∷ y1 ∷ ys) n)
output_after-equation s x1 x2 y1 y2 [] n below = absurd (omega arith)
output_after-equation s x1 x2 y1 y2 (x ∷ xs) zero below = refl
output_after-equation s x1 x2 y1 y2 (x ∷ xs) (suc n) below =
    output_after-equation s x x1 (answer_to s x x1 x2 y1 y2) y1 xs n (omega arith)

-- What meets the equation is what the function gives.
output_after-only : (s : Stage) (x1 x2 y1 y2 : ℤ) (xs ys : List ℤ)
    → IsOutputAfter s x1 x2 y1 y2 xs ys → ys ≡ output_after s x1 x2 y1 y2 xs
output_after-only s x1 x2 y1 y2 [] [] is = refl
output_after-only s x1 x2 y1 y2 [] (y ∷ ys) is = absurd (omega (arith, is.as_long))
output_after-only s x1 x2 y1 y2 (x ∷ xs) [] is = absurd (omega (arith, is.as_long))
output_after-only s x1 x2 y1 y2 (x ∷ xs) (y ∷ ys) is =
    let rest : IsOutputAfter s x x1 y y1 xs ys = record {
      as_long = omega (arith, is.as_long);
      equation = λ n below. is.equation (suc n) (omega arith);
    } in
    let first : y ≡ answer_to s x x1 x2 y1 y2 = is.equation 0 (omega arith) in
    ap (λ zs. y ∷ zs) (output_after-only s x x1 y y1 xs ys rest)
    ∙ ap (λ z. z ∷ output_after s x x1 z y1 xs) first

-- A stage has one output.
pub stage_output-only : (stage : Stage) (xs ys : List ℤ) → IsStageOutput stage xs ys
    → ys ≡ stage_output stage xs
unfolding stage_output
stage_output-only stage xs ys is =
    output_after-only stage (pos 0) (pos 0) (pos 0) (pos 0) xs ys
    (record { as_long = is.as_long; equation = is.equation })

-- The function gives it.
pub stage_output-is : (stage : Stage) (xs : List ℤ)
    → IsStageOutput stage xs (stage_output stage xs)
unfolding stage_output
stage_output-is stage xs = record {
  as_long = length-output_after stage (pos 0) (pos 0) (pos 0) (pos 0) xs;
  equation = output_after-equation stage (pos 0) (pos 0) (pos 0) (pos 0) xs;
}

-- A cascade's output is as long as its input.
pub length-cascade_output : (stages : List Stage) (xs : List ℤ)
    → length (cascade_output stages xs) ≡ length xs
length-cascade_output [] xs = refl
length-cascade_output (stage ∷ stages) xs =
    length-cascade_output stages (stage_output stage xs) ∙ (stage_output-is stage xs).as_long

-- one term more
output_after-push : (s : Stage) (x1 x2 y1 y2 : ℤ) (xs : List ℤ) (x : ℤ)
    → let ys = output_after s x1 x2 y1 y2 xs in
    output_after s x1 x2 y1 y2 (xs ++ x ∷ [])
    ≡ ys ++ answer_to s x (term (x1 ∷ xs) (length xs)) (term (x2 ∷ x1 ∷ xs) (length xs))
    (term (y1 ∷ ys) (length ys)) (term (y2 ∷ y1 ∷ ys) (length ys)) ∷ []
output_after-push s x1 x2 y1 y2 [] x = refl
output_after-push s x1 x2 y1 y2 (z ∷ zs) x =
    let y = answer_to s z x1 x2 y1 y2 in
    ap (λ ys. y ∷ ys) (output_after-push s z x1 y y1 zs x)

-- The output over one term more is the output before and the answer to that term.
pub stage_output-push : (s : Stage) (xs : List ℤ) (x : ℤ)
    → let ys = stage_output s xs in
    stage_output s (xs ++ x ∷ [])
    ≡ ys ++ answer_to s x (term (delayed xs) (length xs)) (term (delayed (delayed xs)) (length xs))
    (term (delayed ys) (length ys)) (term (delayed (delayed ys)) (length ys)) ∷ []
unfolding stage_output
stage_output-push s xs x = output_after-push s (pos 0) (pos 0) (pos 0) (pos 0) xs x

-- Nothing is answered to nothing.
pub stage_output-none : (s : Stage) → stage_output s [] ≡ []
unfolding stage_output
stage_output-none s = refl
