-- Why a replay stops, and what is counted where it stops.
use Rattle.plum_host.specs.declared.host.WriteRefusal.{WriteRefusal}
use Rattle.plum_host.specs.declared.host.WriteRefusal.TheVariants as refusals
use Rattle.plum_host.specs.Counting.{CountsNothing, CountsRead, CountsWrite}
use Rattle.plum_host.specs.Told.{HostView}
use Rattle.plum_packet.specs.declared.segments.SegmentFault.{SegmentFault}
use Rattle.plum_packet.specs.declared.segments.SegmentFault.TheVariants as segments
use Rattle.plum_replay.specs.declared.fault.ReplayFault.{ReplayFault}
use Rattle.plum_replay.specs.declared.fault.ReplayFault.TheVariants.{Read, Write, Limit, NoMemory}

-- a refused write, as a fault of a replay
abbrev pub fault_of_write : WriteRefusal → ReplayFault
fault_of_write refusals.Failed = Write
fault_of_write refusals.NoMemory = NoMemory

-- a fault of the reader of segments, as one of a replay
abbrev pub fault_of_segments : SegmentFault → ReplayFault
fault_of_segments segments.Read = Read
fault_of_segments segments.Limit = Limit
fault_of_segments segments.NoMemory = NoMemory

-- the one fault that stopped it, and nothing else
abbrev pub CountsStop : ReplayFault → HostView → HostView → Type 0
CountsStop Read before after = CountsRead before after
CountsStop Write before after = CountsWrite before after
CountsStop Limit before after = CountsNothing before after
CountsStop NoMemory before after = CountsNothing before after
