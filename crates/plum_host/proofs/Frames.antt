-- What steps over a host leave alone and count: two steps join.
use Rattle.std.proofs.Common.{◌∙◌}
use Rattle.plum_host.specs.declared.host.In.{In}
use Rattle.plum_host.specs.declared.host.To.{To}
use Rattle.plum_host.specs.Told.{HostView}
use Rattle.plum_host.specs.Frames.{OnlyReads, OnlyWrites}
use Rattle.plum_host.specs.Counting.{CountsNothing}

-- one read after another
pub OnlyReads-join : {file : In} {before between after : HostView}
    → OnlyReads file before between → OnlyReads file between after → OnlyReads file before after
OnlyReads-join first second = record {
  other_inputs = λ other differs.
      second.other_inputs other differs ∙ first.other_inputs other differs;
  outputs = λ to. second.outputs to ∙ first.outputs to;
  write_faults = second.write_faults ∙ first.write_faults;
}

-- one write after another
pub OnlyWrites-join : {file : To} {before between after : HostView}
    → OnlyWrites file before between → OnlyWrites file between after → OnlyWrites file before after
OnlyWrites-join first second = record {
  other_output = λ other differs.
      second.other_output other differs ∙ first.other_output other differs;
  inputs = λ input. second.inputs input ∙ first.inputs input;
  read_faults = second.read_faults ∙ first.read_faults;
}

-- no fault, and then none
pub CountsNothing-join : {before between after : HostView}
    → CountsNothing before between → CountsNothing between after → CountsNothing before after
CountsNothing-join first second = record {
  reads = second.reads ∙ first.reads;
  writes = second.writes ∙ first.writes;
}
