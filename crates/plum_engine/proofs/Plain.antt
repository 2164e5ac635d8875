-- Where the cascade passes its input through.
use Rattle.std.proofs.Common.{◌≡◌, ℕ, ◌+◌, ◌*◌, ◌^◌, ◌<◌, ℤ, pos, negsuc, ◌*ℤ◌, List}
use Rattle.std.proofs.Common.{length, get_or, map, refl, sym, ◌∙◌, ap, arith}
use Rattle.std.proofs.lemmas.Int.{ints, clamps}
use Rattle.std.proofs.lemmas.List.{length-map, get_or-map}
use Rattle.std.specs.Int.{int_div_euclid}
use Rattle.plum_base.specs.declared.cascade.Stage.{Stage}
use Rattle.plum_base.specs.declared.cascade.Rounding.TheVariants.{Floor}
use Rattle.plum_base.specs.declared.setup.Gain.{Gain}
use Rattle.plum_base.specs.declared.wave.Sample.{Sample}
use Rattle.plum_filter.specs.Stage.{clamped, weighted, answer_to, term, delayed, IsStageOutput}
use Rattle.plum_filter.specs.Stage.{cascade_output, OneOutput}
use Rattle.plum_engine.specs.Signal.{signal_of, signals_of, filtered, amplitude_at}
use Rattle.plum_engine.specs.Engine.{pass_through, unfiltered_amplitude, PassesThrough}
use Rattle.plum_engine.proofs.ByIndex.{amplitudes_of-only}

-- the one stage of the cascade
abbrev passing : Stage
passing =
    record { b0 = pos 2; b1 = pos 0; b2 = pos 0; a1 = pos 0; a2 = pos 0; q = 1; round = Floor }

-- a term that is not weighted
none_of : (a : ℤ) → pos 0 *ℤ a ≡ pos 0
none_of (pos n) = omega (arith, ints)
none_of (negsuc n) = omega (arith, ints)

-- twice a number, halved
halved : (x : ℤ) → int_div_euclid (pos 2 *ℤ x) (pos 2) ≡ x
halved (pos n) = ap pos (omega arith)
halved (negsuc n) =
    let double : pos 2 *ℤ negsuc n ≡ negsuc (2 * n + 1) = omega (arith, ints) in
    ap (λ z. int_div_euclid z (pos 2)) double ∙ ap negsuc (omega arith)

-- What is clamped is not changed by clamping it again.
clamped_again : (v : ℤ) → clamped (clamped v) ≡ clamped v
clamped_again v = omega (arith, ints, clamps)

-- The sum of the stage's equation is twice its input.
doubled : (x x1 x2 y1 y2 : ℤ) → weighted passing x x1 x2 y1 y2 ≡ pos 2 *ℤ x
doubled x x1 x2 y1 y2 =
    omega (arith, ints, none_of x1, none_of x2, none_of y1, none_of y2)

-- So the stage answers its input, where that is clamped.
answer_is_input : (v x1 x2 y1 y2 : ℤ) → answer_to passing (clamped v) x1 x2 y1 y2 ≡ clamped v
answer_is_input v x1 x2 y1 y2 =
    ap (λ sum. clamped (int_div_euclid sum (pos 2))) (doubled (clamped v) x1 x2 y1 y2)
    ∙ ap clamped (halved (clamped v)) ∙ clamped_again v

module _ (one_output : OneOutput) (gain : Gain) (component : Sample → ℤ) (run : List Sample) where
  abbrev signals : List ℤ
  signals = signals_of gain component run

  -- A signal is the stage's own output over it,
  signals-passed : IsStageOutput passing signals signals
  signals-passed = record {
    as_long = refl;
    equation = λ n below.
        let any : Sample = record { x = pos 0; y = pos 0; z = pos 0 } in
        let within : n < length run =
        omega (arith, length-map run (λ s. signal_of gain (component s))) in
        let count = component (get_or run n any) in
        let is : term signals n ≡ signal_of gain count =
        get_or-map (λ s. signal_of gain (component s)) run n any (pos 0) within in
        let x1 = term (delayed signals) n in
        let x2 = term (delayed (delayed signals)) n in
        sym (ap (λ x. answer_to passing x x1 x2 x1 x2) is
        ∙ answer_is_input (int_div_euclid (count *ℤ pos gain.g) (pos (2 ^ gain.h))) x1 x2 x1 x2
        ∙ sym is);
  }

  -- and so that of the cascade.
  pub filtered-plain : cascade_output pass_through signals ≡ signals
  filtered-plain = sym (one_output passing signals signals signals-passed)

-- Each sample has the sum of the squares of its three signals.
pub amplitudes_of-plain : OneOutput → PassesThrough
amplitudes_of-plain one_output setup run plain =
    sym (amplitudes_of-only setup run (map (unfiltered_amplitude setup.gain) run)
    (length-map run (unfiltered_amplitude setup.gain)) each)
  where
    any : Sample
    any = record { x = pos 0; y = pos 0; z = pos 0 }

    -- one filtered component at one index
    term_is : (component : Sample → ℤ) (n : ℕ) → n < length run
        → term (filtered setup component run) n
        ≡ signal_of setup.gain (component (get_or run n any))
    term_is component n below =
        ap (λ cascade. term (cascade_output cascade (signals_of setup.gain component run)) n) plain
        ∙ ap (λ xs. term xs n) (filtered-plain one_output setup.gain component run)
        ∙ get_or-map (λ s. signal_of setup.gain (component s)) run n any (pos 0) below

    each : (n : ℕ) → n < length run
        → get_or (map (unfiltered_amplitude setup.gain) run) n 0 ≡ amplitude_at setup run n
    each n below =
        let of_x = term_is (λ s. s.x) n below in
        let of_y = term_is (λ s. s.y) n below in
        let of_z = term_is (λ s. s.z) n below in
        get_or-map (unfiltered_amplitude setup.gain) run n any 0 below ∙ cc
