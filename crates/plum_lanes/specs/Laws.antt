-- What lanes and a gatherer say together of packets: the statement of their law.
use Rattle.std.specs.Prelude.{◌≡◌, List, length}
use Rattle.plum_base.specs.declared.packet.Packet.{Packet}
use Rattle.plum_core.specs.Transcript.{of_lane, HoldsKeptByLane}
use Rattle.plum_lanes.specs.declared.gatherer.Gather.{Gather}
use Rattle.plum_lanes.specs.declared.lanes.Lane.{Lane}
use Rattle.plum_lanes.specs.Gathering.{gathered, AreGathered}
use Rattle.plum_lanes.specs.Lanes.{HaveTaken, AreFree}
use Rattle.plum_lanes.specs.Opening.{Opening}

-- Where each lane took its packets of these, nothing waits, and all that was sent is gathered, what
-- is gathered of each lane is the kept ones of its packets.
abbrev pub GatheredAreKept : Type 0
GatheredAreKept = (opening : Opening) (packets : List Packet) (lanes : List Lane) (gather : Gather)
    → let count = opening.basis.setup.lanes in
    length lanes ≡ count → HaveTaken opening (λ lane. of_lane count lane packets) lanes
    → AreFree lanes → AreGathered lanes gather
    → HoldsKeptByLane count (gathered gather) packets
