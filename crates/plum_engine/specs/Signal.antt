-- From counts to the squared vector amplitude, over a whole run (the project's own fixed point; the
-- vector amplitude of the three filtered components is that of the JMA intensity).
use Rattle.std.specs.Prelude.{◌≡◌, ℕ, ◌+◌, ◌*◌, ◌<◌, ◌≤◌, ℤ, pos, nat_abs, ◌*ℤ◌, List, map}
use Rattle.std.specs.Prelude.{length, slice_index}
use Rattle.std.specs.List.{range_with_len}
use Rattle.plum_base.specs.declared.cascade.Rounding.TheVariants.{Floor}
use Rattle.plum_base.specs.declared.setup.Gain.{Gain}
use Rattle.plum_base.specs.declared.setup.Setup.{Setup}
use Rattle.plum_base.specs.declared.wave.Sample.{Sample}
use Rattle.plum_base.specs.Levels.{GREATEST_AMPLITUDE}
use Rattle.plum_filter.specs.Stage.{clamped, rounded, term, cascade_output}

-- the gain rule: count * g / 2^h, rounded down and clamped
abbrev pub signal_of : Gain → ℤ → ℤ
signal_of gain count = clamped (rounded Floor (count *ℤ pos gain.g) gain.h)

-- The signal of a component over a run: the gain rule at each index. A component is the x, the y or
-- the z of each sample.
abbrev pub signals_of : Gain → (Sample → ℤ) → List Sample → List ℤ
signals_of gain component run = map (λ s. signal_of gain (component s)) run

-- the component after the setup's cascade
abbrev pub filtered : Setup → (Sample → ℤ) → List Sample → List ℤ
filtered setup component run = cascade_output setup.cascade (signals_of setup.gain component run)

-- the square of a number
abbrev pub square : ℤ → ℕ
square z = nat_abs z * nat_abs z

-- The squared vector amplitude at an index of a run: the sum of the squares of the three filtered
-- components there.
abbrev pub amplitude_at : Setup → List Sample → ℕ → ℕ
amplitude_at setup run n =
    square (term (filtered setup (λ s. s.x) run) n)
    + square (term (filtered setup (λ s. s.y) run) n)
    + square (term (filtered setup (λ s. s.z) run) n)

-- the squared vector amplitude at each index of a run
abbrev pub amplitudes_of : Setup → List Sample → List ℕ
amplitudes_of setup run = map (amplitude_at setup run) (range_with_len 0 (length run))

-- There are as many as the run has samples ..
abbrev pub AsManyAmplitudes : Type 0
AsManyAmplitudes = (setup : Setup) (run : List Sample)
    → length (amplitudes_of setup run) ≡ length run

-- .. and at each index stands the one of that index.
abbrev pub AmplitudeAtEach : Type 0
AmplitudeAtEach = (setup : Setup) (run : List Sample) (n : ℕ) → n < length run
    → slice_index (amplitudes_of setup run) n ≡ amplitude_at setup run n

-- None is above three squares of the greatest term, so each fits 64 bits.
abbrev pub AmplitudesAreBounded : Type 0
AmplitudesAreBounded = (setup : Setup) (run : List Sample) (n : ℕ) → n < length run
    → slice_index (amplitudes_of setup run) n ≤ GREATEST_AMPLITUDE
