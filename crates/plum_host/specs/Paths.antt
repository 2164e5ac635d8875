-- Where each input lies.
use Rattle.std.specs.Prelude.{ℕ, List}
use Rattle.plum_host.specs.declared.host.In.{In}
use Rattle.plum_host.specs.declared.host.In.TheVariants.{Setup, Stations, Targets, Capture, Journal}
use Rattle.plum_host.specs.declared.host.In.TheVariants.{Output}
use Rattle.plum_host.specs.declared.paths.Paths.{Paths}

-- the path of an input: its own
abbrev pub path_of : Paths → In → List ℕ
path_of paths Setup = paths.setup
path_of paths Stations = paths.stations
path_of paths Targets = paths.targets
path_of paths Capture = paths.capture
path_of paths Journal = paths.journal
path_of paths Output = paths.output
