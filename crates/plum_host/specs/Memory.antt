-- What a host over memory holds.
use Rattle.std.specs.Prelude.{ℕ, List, [], Option, Some}
use Rattle.plum_host.specs.declared.host.In.{In}
use Rattle.plum_host.specs.declared.host.In.TheVariants as inputs
use Rattle.plum_host.specs.declared.host.To.{To}
use Rattle.plum_host.specs.declared.host.To.TheVariants as outputs
use Rattle.plum_host.specs.declared.memory.MemFiles.{MemFiles}
use Rattle.plum_host.specs.Schedule.{ScheduleView, failed_calls}
use Rattle.plum_host.specs.Told.{HostView}

-- what is left of each input, what the outputs hold, and the schedules of its calls; a sound host
-- has none
pub record MemHostView : Type 0 where
  pub setup : List ℕ
  pub stations : List ℕ
  pub targets : List ℕ
  pub capture : List ℕ
  pub journal : List ℕ
  pub output : List ℕ
  pub journal_written : List ℕ
  pub out_written : List ℕ
  pub reads : Option ScheduleView
  pub writes : Option ScheduleView

-- a host of these files, of which nothing was read, with empty outputs
abbrev pub host_of : MemFiles → Option ScheduleView → Option ScheduleView → MemHostView
host_of files reads writes = record {
  setup = files.setup;
  stations = files.stations;
  targets = files.targets;
  capture = files.capture;
  journal = files.journal;
  output = files.output;
  journal_written = [];
  out_written = [];
  reads = reads;
  writes = writes;
}

-- what is left of an input
abbrev pub left_of : MemHostView → In → List ℕ
left_of m inputs.Setup = m.setup
left_of m inputs.Stations = m.stations
left_of m inputs.Targets = m.targets
left_of m inputs.Capture = m.capture
left_of m inputs.Journal = m.journal
left_of m inputs.Output = m.output

-- what an output holds
abbrev pub held_by : MemHostView → To → List ℕ
held_by m outputs.Out = m.out_written
held_by m outputs.Journal = m.journal_written

-- It tells all of it. Its faults are the calls that failed by its schedules.
abbrev pub told_by : MemHostView → HostView
told_by m = record {
  left = λ file. Some (left_of m file);
  held = λ to. Some (held_by m to);
  read_faults = failed_calls m.reads;
  write_faults = failed_calls m.writes;
}
