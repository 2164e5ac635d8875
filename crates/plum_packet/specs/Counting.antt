-- What a reader of segments counts where it stops.
use Rattle.plum_host.specs.Counting.{CountsNothing, CountsRead}
use Rattle.plum_host.specs.Told.{HostView}
use Rattle.plum_packet.specs.declared.records.RecordsFault.{RecordsFault}
use Rattle.plum_packet.specs.declared.records.RecordsFault.TheVariants as records
use Rattle.plum_packet.specs.declared.segments.SegmentFault.{SegmentFault}
use Rattle.plum_packet.specs.declared.segments.SegmentFault.TheVariants as segments

-- a fault of the reader of records, as one of segments
abbrev pub fault_of_records : RecordsFault → SegmentFault
fault_of_records records.Read = segments.Read
fault_of_records records.Limit = segments.Limit

-- a read that failed, and nothing else
abbrev pub CountsFault : SegmentFault → HostView → HostView → Type 0
CountsFault segments.Read before after = CountsRead before after
CountsFault segments.Limit before after = CountsNothing before after
CountsFault segments.NoMemory before after = CountsNothing before after
