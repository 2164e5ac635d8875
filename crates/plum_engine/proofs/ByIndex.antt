-- The amplitudes of a run: at each index, and one sample more on.
use Rattle.std.proofs.Common.{◌≡◌, ℕ, ◌+◌, ◌<◌, ℤ, pos, List, [], ◌∷◌, ◌++◌, length, get_or}
use Rattle.std.proofs.Common.{sym, ◌∙◌, ap, arith, inl, inr}
use Rattle.std.proofs.lemmas.Bool.{cases_lt}
use Rattle.std.proofs.lemmas.List.{length-map, length_push, get_or_push, get_or_append_left}
use Rattle.std.proofs.lemmas.List.FromFn.{length-map-range_with_len, get_or-map-range_with_len}
use Rattle.std.proofs.lemmas.List.FromFn.{fill_by_all}
use Rattle.plum_base.specs.declared.setup.Setup.{Setup}
use Rattle.plum_base.specs.declared.wave.Sample.{Sample}
use Rattle.plum_filter.specs.Stage.{term, AsLong}
use Rattle.plum_engine.specs.Signal.{signal_of, signals_of, filtered, square, amplitude_at}
use Rattle.plum_engine.specs.Signal.{amplitudes_of}

module _ (setup : Setup) (run : List Sample) where
  -- There are as many as the run has samples,
  pub length-amplitudes_of : length (amplitudes_of setup run) ≡ length run
  length-amplitudes_of = length-map-range_with_len (amplitude_at setup run) 0 (length run)

  -- at each index stands the one of that index,
  pub amplitudes_of-at : (n : ℕ) → n < length run
      → get_or (amplitudes_of setup run) n 0 ≡ amplitude_at setup run n
  amplitudes_of-at n below =
      get_or-map-range_with_len (amplitude_at setup run) 0 (length run) n n 0 below (omega arith)

  -- and that is true of no other list.
  pub amplitudes_of-only : (amplitudes : List ℕ) → length amplitudes ≡ length run
      → ((n : ℕ) → n < length run → get_or amplitudes n 0 ≡ amplitude_at setup run n)
      → amplitudes ≡ amplitudes_of setup run
  amplitudes_of-only amplitudes long each =
      fill_by_all (amplitude_at setup run) amplitudes (length run) 0 long each

module _ (setup : Setup) (as_long : AsLong) (run : List Sample) (s : Sample) where
  -- the run and this sample
  abbrev longer : List Sample
  longer = run ++ s ∷ []

  -- what the cascade answers to one component of the sample
  abbrev pub Answers : (Sample → ℤ) → ℤ → Type 0
  Answers component answer =
      filtered setup component longer ≡ filtered setup component run ++ answer ∷ []

  -- A filtered component is as long as the run.
  length-filtered : (component : Sample → ℤ) → length (filtered setup component run) ≡ length run
  length-filtered component =
      as_long setup.cascade (signals_of setup.gain component run)
      ∙ length-map run (λ t. signal_of setup.gain (component t))

  module _ (component : Sample → ℤ) (answer : ℤ) (answers : Answers component answer) where
    -- Its earlier terms stay,
    term-before : (n : ℕ) → n < length run
        → term (filtered setup component longer) n ≡ term (filtered setup component run) n
    term-before n below =
        let long = length-filtered component in
        let within : n < length (filtered setup component run) = omega arith in
        ap (λ ys. term ys n) answers
        ∙ get_or_append_left (filtered setup component run) (answer ∷ []) (pos 0) n within

    -- and the last is the answer.
    term-last : term (filtered setup component longer) (length run) ≡ answer
    term-last =
        ap (λ ys. term ys (length run)) answers
        ∙ get_or_push (filtered setup component run) answer (pos 0) (length run)
        (length-filtered component)

  module _ (x y z : ℤ) (at_x : Answers (λ t. t.x) x) (at_y : Answers (λ t. t.y) y)
      (at_z : Answers (λ t. t.z) z) where
    -- At an earlier index the amplitude stays,
    amplitude-before : (n : ℕ) → n < length run
        → amplitude_at setup run n ≡ amplitude_at setup longer n
    amplitude-before n below =
        let of_x = term-before (λ t. t.x) x at_x n below in
        let of_y = term-before (λ t. t.y) y at_y n below in
        let of_z = term-before (λ t. t.z) z at_z n below in
        cc

    -- and at the last it is the sum of the squares of the answers.
    amplitude-last : square x + square y + square z ≡ amplitude_at setup longer (length run)
    amplitude-last =
        let of_x = term-last (λ t. t.x) x at_x in
        let of_y = term-last (λ t. t.y) y at_y in
        let of_z = term-last (λ t. t.z) z at_z in
        cc

    -- So the amplitudes of the longer run are those before and that sum.
    pub amplitudes_of-push : amplitudes_of setup longer
        ≡ amplitudes_of setup run ++ (square x + square y + square z) ∷ []
    amplitudes_of-push = sym (amplitudes_of-only setup longer more long each)
      where
        more : List ℕ
        more = amplitudes_of setup run ++ (square x + square y + square z) ∷ []

        of_run : length (amplitudes_of setup run) ≡ length run
        of_run = length-amplitudes_of setup run

        long : length more ≡ length longer
        long =
            length_push (amplitudes_of setup run) _
            ∙ ap (λ n. n + 1) of_run ∙ sym (length_push run s)

        each : (n : ℕ) → n < length longer → get_or more n 0 ≡ amplitude_at setup longer n
        each n below = elim (cases_lt n (length run)) [
          | inl earlier ↦
              let many = of_run in
              let within : n < length (amplitudes_of setup run) = omega arith in
              get_or_append_left (amplitudes_of setup run) _ 0 n within
              ∙ amplitudes_of-at setup run n earlier ∙ amplitude-before n earlier
          | inr last ↦
              let length_is = length_push run s in
              let here : length run ≡ n = omega arith in
              get_or_push (amplitudes_of setup run) _ 0 n (of_run ∙ here)
              ∙ amplitude-last ∙ ap (amplitude_at setup longer) here
        ]
