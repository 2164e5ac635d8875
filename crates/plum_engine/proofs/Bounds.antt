-- The greatest amplitude.
use Rattle.std.proofs.Common.{◌≡◌, ℕ, ◌^◌, ◌<◌, ◌≤◌, ℤ, pos, ◌*ℤ◌, List, [], ◌∷◌, length}
use Rattle.std.proofs.Common.{get_or, nat_abs, sym, subst, arith, inl, inr}
use Rattle.std.proofs.Math.Nat.{mul-le-mul}
use Rattle.std.proofs.lemmas.Bool.{cases_lt}
use Rattle.std.proofs.lemmas.Int.{ints, clamps}
use Rattle.std.proofs.lemmas.List.{get_or_past, get_or-map, length-map}
use Rattle.std.specs.Int.{int_div_euclid}
use Rattle.plum_base.specs.declared.cascade.Stage.{Stage}
use Rattle.plum_base.specs.declared.setup.Setup.{Setup}
use Rattle.plum_base.specs.declared.wave.Sample.{Sample}
use Rattle.plum_base.specs.Levels.{GREATEST_AMPLITUDE}
use Rattle.plum_filter.specs.Stage.{IsTerm, clamped, rounded, weighted, answer_to, term}
use Rattle.plum_filter.specs.Stage.{delayed, stage_output, cascade_output, OutputIs}
use Rattle.plum_engine.specs.Signal.{signal_of, signals_of, filtered, square, amplitude_at}
use Rattle.plum_engine.specs.Signal.{AmplitudesAreBounded}
use Rattle.plum_engine.proofs.ByIndex.{amplitudes_of-at}

-- each term is in its range; a term behind the last is 0
abbrev AreTerms : List ℤ → Type 0
AreTerms xs = (n : ℕ) → IsTerm (term xs n)

clamped-term : (v : ℤ) → IsTerm (clamped v)
clamped-term v = (omega (arith, ints, clamps), omega (arith, ints, clamps))

zero-term : (z : ℤ) → z ≡ pos 0 → IsTerm z
zero-term z is = (omega (arith, ints), omega (arith, ints))

-- It is enough that those up to the last are.
AreTerms-within : (xs : List ℤ) → ((n : ℕ) → n < length xs → IsTerm (term xs n)) → AreTerms xs
AreTerms-within xs each n = elim (cases_lt n (length xs)) [
  | inl within ↦ each n within
  | inr past ↦ zero-term (term xs n) (get_or_past xs n (pos 0) past)
]

-- what a stage answers
answer-term : (s : Stage) (x0 x1 x2 y1 y2 : ℤ) → IsTerm (answer_to s x0 x1 x2 y1 y2)
answer-term s x0 x1 x2 y1 y2 = clamped-term (rounded s.round (weighted s x0 x1 x2 y1 y2) s.q)

-- a stage's output
AreTerms-stage : OutputIs → (stage : Stage) (xs : List ℤ) → AreTerms (stage_output stage xs)
AreTerms-stage output_is stage xs =
    let ys = stage_output stage xs in
    let is = output_is stage xs in
    let long : length ys ≡ length xs = is.as_long in
    AreTerms-within ys (λ n within.
    let below : n < length xs = omega arith in
    subst IsTerm (sym (is.equation n below))
    (answer-term stage (term xs n) (term (delayed xs) n) (term (delayed (delayed xs)) n)
    (term (delayed ys) n) (term (delayed (delayed ys)) n)))

-- a cascade's output
AreTerms-cascade : OutputIs → (stages : List Stage) (xs : List ℤ) → AreTerms xs
    → AreTerms (cascade_output stages xs)
AreTerms-cascade output_is [] xs terms = terms
AreTerms-cascade output_is (stage ∷ stages) xs terms =
    AreTerms-cascade output_is stages (stage_output stage xs) (AreTerms-stage output_is stage xs)

-- the square of a term
square-bound : (z : ℤ) → IsTerm z → square z ≤ 2 ^ 60
square-bound z term =
    let size : nat_abs z ≤ 2 ^ 30 = omega (arith, ints) in
    mul-le-mul size size

module _ (output_is : OutputIs) (setup : Setup) (run : List Sample) where
  -- a filtered component
  AreTerms-filtered : (component : Sample → ℤ) → AreTerms (filtered setup component run)
  AreTerms-filtered component =
      AreTerms-cascade output_is setup.cascade (signals_of setup.gain component run)
      (AreTerms-within (signals_of setup.gain component run) signals)
    where
      any : Sample
      any = record { x = pos 0; y = pos 0; z = pos 0 }

      signals : (n : ℕ) → n < length (signals_of setup.gain component run)
          → IsTerm (term (signals_of setup.gain component run) n)
      signals n within =
          let gain = setup.gain in
          let long = length-map run (λ s. signal_of gain (component s)) in
          let below : n < length run = omega arith in
          let count = component (get_or run n any) in
          subst IsTerm
          (sym (get_or-map (λ s. signal_of gain (component s)) run n any (pos 0) below))
          (clamped-term (int_div_euclid (count *ℤ pos gain.g) (pos (2 ^ gain.h))))

  -- the amplitude at an index
  amplitude-bound : (n : ℕ) → amplitude_at setup run n ≤ GREATEST_AMPLITUDE
  amplitude-bound n =
      let x = square-bound _ (AreTerms-filtered (λ s. s.x) n) in
      let y = square-bound _ (AreTerms-filtered (λ s. s.y) n) in
      let z = square-bound _ (AreTerms-filtered (λ s. s.z) n) in
      omega arith

-- No amplitude is above three squares of the greatest term.
pub amplitudes_of-bounded : OutputIs → AmplitudesAreBounded
amplitudes_of-bounded output_is setup run n below =
    rw (amplitudes_of-at setup run n below) (amplitude-bound output_is setup run n)
