-- The three components of a station at work.
use Rattle.std.specs.Prelude.{◌≡◌, ℕ, List, [], ◌∷◌, ◌++◌}
use Rattle.plum_base.specs.declared.setup.Gain.{Gain}
use Rattle.plum_base.specs.declared.setup.Setup.{Setup}
use Rattle.plum_base.specs.declared.wave.Sample.{Sample}
use Rattle.plum_filter.specs.Filter as filters
use Rattle.plum_filter.specs.declared.biquad.Biquad.{Biquad}
use Rattle.plum_engine.specs.Signal.{signals_of, amplitudes_of}

-- what the components show: the gain, and the filter of each
pub record ComponentsView : Type 0 where
  pub gain : Gain
  pub x : List Biquad
  pub y : List Biquad
  pub z : List Biquad

-- The components, under this setup, were given the samples of this run since they were made or
-- reset: each filter was given the signal of its own component.
pub record StandsFor (components : ComponentsView) (setup : Setup) (run : List Sample)
    : Type 0 where
  pub same_gain : components.gain ≡ setup.gain
  pub x : filters.StandsFor components.x setup.cascade (signals_of setup.gain (λ s. s.x) run)
  pub y : filters.StandsFor components.y setup.cascade (signals_of setup.gain (λ s. s.y) run)
  pub z : filters.StandsFor components.z setup.cascade (signals_of setup.gain (λ s. s.z) run)

-- One sample more: what stood for the run before stands for it and this sample, and the amplitudes
-- of the longer run are those before and this one.
pub record JoinsSample (before after : ComponentsView) (sample : Sample) (amplitude : ℕ)
    : Type 0 where
  pub stands : (setup : Setup) (run : List Sample) → StandsFor before setup run
      → StandsFor after setup (run ++ sample ∷ [])
  pub amplitudes : (setup : Setup) (run : List Sample) → StandsFor before setup run
      → amplitudes_of setup (run ++ sample ∷ []) ≡ amplitudes_of setup run ++ amplitude ∷ []
