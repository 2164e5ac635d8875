-- The components of a station, one sample more on.
use Rattle.std.proofs.Common.{◌≡◌, ◌+◌, ℤ, List, [], ◌∷◌, ◌++◌, sym, ◌∙◌, ap, subst}
use Rattle.std.proofs.lemmas.List.{map_push}
use Rattle.plum_base.specs.declared.setup.Gain.{Gain}
use Rattle.plum_base.specs.declared.setup.Setup.{Setup}
use Rattle.plum_base.specs.declared.wave.Sample.{Sample}
use Rattle.plum_filter.specs.declared.biquad.Biquad.{Biquad}
use Rattle.plum_filter.specs.Filter as filters
use Rattle.plum_filter.specs.Filter.{JoinsInput}
use Rattle.plum_filter.specs.Stage.{cascade_output, AsLong}
use Rattle.plum_engine.specs.Components.{JoinsSample}
use Rattle.plum_engine.specs.Signal.{signal_of, signals_of, filtered, square}
use Rattle.plum_engine.proofs.ByIndex.{amplitudes_of-push}

module _ (setup : Setup) (run : List Sample) (s : Sample) (component : Sample → ℤ)
    (gain : Gain) (same : gain ≡ setup.gain) (before after : List Biquad) (answer : ℤ)
    (joins : JoinsInput before after (signal_of gain (component s)) answer)
    (stands : filters.StandsFor before setup.cascade (signals_of setup.gain component run)) where
  -- The signal of the longer run is the one before and that of the sample.
  signals-push : signals_of setup.gain component (run ++ s ∷ [])
      ≡ signals_of setup.gain component run ++ signal_of gain (component s) ∷ []
  signals-push =
      map_push (λ t. signal_of setup.gain (component t)) run s
      ∙ ap (λ g. signals_of setup.gain component run ++ signal_of g (component s) ∷ []) (sym same)

  -- So the filter was given the signal of the longer run,
  stands_more : filters.StandsFor after setup.cascade
      (signals_of setup.gain component (run ++ s ∷ []))
  stands_more =
      subst (filters.StandsFor after setup.cascade) (sym signals-push)
      (joins.stands setup.cascade (signals_of setup.gain component run) stands)

  -- and gave the answer to it.
  answers : filtered setup component (run ++ s ∷ []) ≡ filtered setup component run ++ answer ∷ []
  answers =
      ap (cascade_output setup.cascade) signals-push
      ∙ joins.output setup.cascade (signals_of setup.gain component run) stands

-- Each filter was given the signal of its component, and gave its answer.
pub JoinsSample-from : AsLong → (gain : Gain) (s : Sample) {xs ys zs xs' ys' zs' : List Biquad}
    {x y z : ℤ} → JoinsInput xs xs' (signal_of gain s.x) x
    → JoinsInput ys ys' (signal_of gain s.y) y
    → JoinsInput zs zs' (signal_of gain s.z) z
    → JoinsSample (record { gain = gain; x = xs; y = ys; z = zs })
    (record { gain = gain; x = xs'; y = ys'; z = zs' }) s (square x + square y + square z)
JoinsSample-from as_long gain s {x = x} {y = y} {z = z} by_x by_y by_z = record {
  stands = λ setup run stands. record {
    same_gain = stands.same_gain;
    x = stands_more setup run s (λ t. t.x) gain stands.same_gain _ _ x by_x stands.x;
    y = stands_more setup run s (λ t. t.y) gain stands.same_gain _ _ y by_y stands.y;
    z = stands_more setup run s (λ t. t.z) gain stands.same_gain _ _ z by_z stands.z;
  };
  amplitudes = λ setup run stands.
      amplitudes_of-push setup as_long run s x y z
      (answers setup run s (λ t. t.x) gain stands.same_gain _ _ x by_x stands.x)
      (answers setup run s (λ t. t.y) gain stands.same_gain _ _ y by_y stands.y)
      (answers setup run s (λ t. t.z) gain stands.same_gain _ _ z by_z stands.z);
}
