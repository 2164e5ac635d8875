-- A station's engine, and a station's value.
use Rattle.std.specs.Prelude.{◌≡◌, ℕ, ◌+◌, Bool, pos, List, [], ◌∷◌, map, Option}
use Rattle.plum_base.specs.declared.numbers.Tenths.{Tenths}
use Rattle.plum_base.specs.declared.packet.Packet.{Packet}
use Rattle.plum_base.specs.declared.wave.Sample.{Sample}
use Rattle.plum_base.specs.declared.setup.Gain.{Gain}
use Rattle.plum_base.specs.declared.setup.Setup.{Setup}
use Rattle.plum_base.specs.declared.cascade.Stage.{Stage}
use Rattle.plum_base.specs.declared.cascade.Rounding.TheVariants.{Floor}
use Rattle.plum_base.specs.Levels.{IsLevelTable}
use Rattle.plum_level.specs.Window as windows
use Rattle.plum_engine.specs.Components as parts
use Rattle.plum_engine.specs.Components.{ComponentsView}
use Rattle.plum_engine.specs.Run.{samples_since_gap, run_of}
use Rattle.plum_engine.specs.Signal.{signal_of, square, amplitudes_of}
use Rattle.plum_engine.specs.Value.{IsValue, value_of_run}

-- what an engine shows: its components, the tenths at which its table begins, and its window
pub record EngineView : Type 0 where
  pub components : ComponentsView
  pub base : Tenths
  pub window : windows.WindowView

-- An engine of this setup was given the samples of this run since it was made or reset.
pub record HoldsRun (engine : EngineView) (setup : Setup) (run : List Sample) : Type 0 where
  pub components : parts.StandsFor engine.components setup run
  pub same_base : engine.base ≡ setup.levels.base
  pub window : windows.StandsFor engine.window setup.levels (amplitudes_of setup run)

-- An engine of this setup was given these packets since it was made, each with whether it is fresh:
-- it holds the run since the last gap.
pub record StandsFor (engine : EngineView) (setup : Setup) (given : List (Bool × List Sample))
    : Type 0 where
  pub run : HoldsRun engine setup (samples_since_gap given)

-- The value of a station after these packets of it: what the run since the last gap gives, whatever
-- came before it.
abbrev pub IsValueOf : Setup → List Packet → Option Tenths → Type 0
IsValueOf setup packets value = IsValue setup.levels (amplitudes_of setup (run_of packets)) value

-- The same as a function: the value that the run since the last gap has (JMA's 0.3 seconds, over
-- the project's own window).
unfoldable pub value_of : Setup → List Packet → Option Tenths
value_of setup packets = value_of_run setup.levels (amplitudes_of setup (run_of packets))

-- What is a station's value after these packets is what the function gives.
abbrev pub OneValue : Type 0
OneValue = (setup : Setup) (packets : List Packet) (value : Option Tenths)
    → IsValueOf setup packets value → value ≡ value_of setup packets

-- At a lawful table, what the function gives is the station's value after these packets.
abbrev pub ValueIs : Type 0
ValueIs = (setup : Setup) (packets : List Packet) → IsLevelTable setup.levels
    → IsValueOf setup packets (value_of setup packets)

-- The cascade that passes its input through: one stage that gives floor (2 x / 2), and so its
-- input.
abbrev pub pass_through : List Stage
pass_through =
    record { b0 = pos 2; b1 = pos 0; b2 = pos 0; a1 = pos 0; a2 = pos 0; q = 1; round = Floor } ∷ []

-- the sum of the squares of a sample's three signals, which nothing filters
abbrev pub unfiltered_amplitude : Gain → Sample → ℕ
unfiltered_amplitude gain s =
    square (signal_of gain s.x) + square (signal_of gain s.y) + square (signal_of gain s.z)

-- Where the cascade passes its input through, that is the squared vector amplitude of each sample.
abbrev pub PassesThrough : Type 0
PassesThrough = (setup : Setup) (run : List Sample) → setup.cascade ≡ pass_through
    → amplitudes_of setup run ≡ map (unfiltered_amplitude setup.gain) run
