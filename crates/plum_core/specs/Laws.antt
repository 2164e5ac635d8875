-- The statements of the laws of histories and of the machine. A real setup has a lawful table; a
-- ghost one may have any, so the laws that rest on it have that as a premise.
use Rattle.std.specs.Prelude.{◌≡◌, ◌≢◌, ◌↔◌, ℕ, ◌+◌, ◌<◌, ◌≤◌, List, [], ◌∷◌, ◌++◌, length, map}
use Rattle.std.specs.Prelude.{take, sum_by, slice_get, All, Some, None, IsSomeAnd}
use Rattle.std.specs.List.{flat_map, range_with_len}
use Rattle.plum_base.specs.declared.answers.Reading.{Reading}
use Rattle.plum_base.specs.declared.entry.Entry.{Entry}
use Rattle.plum_base.specs.declared.numbers.AreaNo.{AreaNo}
use Rattle.plum_base.specs.declared.packet.Packet.{Packet}
use Rattle.plum_base.specs.declared.setup.Setup.{Setup}
use Rattle.plum_base.specs.Lane.{lane_of}
use Rattle.plum_base.specs.Levels.{IsLevelTable}
use Rattle.plum_base.specs.Sites.{SitesView, areas_of}
use Rattle.plum_seq.specs.Keys.{of_station, kept, kept_after}
use Rattle.plum_engine.specs.Engine.{IsValueOf}
use Rattle.plum_geo.specs.Prediction.{shown}
use Rattle.plum_core.specs.declared.event.Event.{Event}
use Rattle.plum_core.specs.declared.event.Reply.{Reply}
use Rattle.plum_core.specs.History.{packets_of, entries_of_lane, IsEntryAfter, IsValidHistory}
use Rattle.plum_core.specs.History.{HoldsKept, packet_of, IsEachOnce}
use Rattle.plum_core.specs.declared.station.Station.{Station}
use Rattle.plum_core.specs.declared.station.Taken.{Taken}
use Rattle.plum_core.specs.Station.{Stands, Gives, waiting_of}
use Rattle.plum_core.specs.Facts.{IsInLaneOrder, IsBacklog, KeepsFacts}
use Rattle.plum_core.specs.Machine.{State, start, step, state_after, waiting_after, AreReplies}
use Rattle.plum_core.specs.Machine.{IsReadAt, NamesExist}
use Rattle.plum_core.specs.Transcript.{Transcript, entries_up_to, journal_of, no_transcript}
use Rattle.plum_base.specs.Sites.{targets_of}
use Rattle.plum_core.specs.Transcript.{of_lane, HoldsByLane, HoldsKeptByLane, ArePredictions}
use Rattle.plum_core.specs.Transcript.{IsLegal, IsLegalUpTo, IsLegalOver, AreReadingsOver}
use Rattle.plum_core.specs.Transcript.{AreReadingsFrom, with_part, with_readings}

-- What a station shows in a valid history is its value there: the plain function of its
-- packets since its last gap.
abbrev pub ShowsItsValue : Type 0
ShowsItsValue = (setup : Setup) (stations s : ℕ) (history : List Entry)
    → IsLevelTable setup.levels → IsValidHistory setup stations history
    → IsValueOf setup (packets_of s history) (shown stations history s)

-- A front of a valid history is valid.
abbrev pub FrontIsValid : Type 0
FrontIsValid = (setup : Setup) (stations : ℕ) (front rest : List Entry)
    → IsValidHistory setup stations (front ++ rest) → IsValidHistory setup stations front

-- A lane's entries in a front are a front of its entries.
abbrev pub FrontOfLane : Type 0
FrontOfLane = (lane : ℕ) (front rest : List Entry)
    → entries_of_lane lane (front ++ rest) ≡ entries_of_lane lane front ++ entries_of_lane lane rest

-- What joins a history of the kept packets is the kept ones of those that come after.
abbrev pub PartIsKept : Type 0
PartIsKept = (history part : List Entry) (earlier packets : List Packet)
    → HoldsKept history earlier → HoldsKept (history ++ part) (earlier ++ packets)
    → map packet_of part ≡ kept_after earlier packets

-- A valid history of the kept ones of some packets begins that of those of these and more.
abbrev pub HistoryBegins : Type 0
HistoryBegins = (setup : Setup) (stations : ℕ) (front whole : List Entry)
    (packets more : List Packet) → IsValidHistory setup stations front → HoldsKept front packets
    → IsValidHistory setup stations whole → HoldsKept whole (packets ++ more)
    → (rest : List Entry) × (whole ≡ front ++ rest)

-- A transcript that is legal up to the last segment is legal, and the other way round.
abbrev pub LegalToTheEnd : Type 0
LegalToTheEnd = (setup : Setup) (sites : SitesView) (segments : List (List Packet)) (t : Transcript)
    → IsLegalUpTo (length segments) setup sites segments t ↔ IsLegal setup sites segments t

-- In a legal transcript the packets of a station in the entries up to mark m are the kept ones of
-- its packets in segments 1 to m.
abbrev pub LegalByStation : Type 0
LegalByStation = (setup : Setup) (sites : SitesView) (segments : List (List Packet))
    (t : Transcript) (m station : ℕ) → IsLegal setup sites segments t
    → packets_of station (entries_up_to m t)
    ≡ kept (of_station station (flat_map (λ segment. segment) (take m segments)))

-- In any front of its journal each station shows its value after its packets there.
abbrev pub LegalShows : Type 0
LegalShows = (setup : Setup) (sites : SitesView) (segments : List (List Packet)) (t : Transcript)
    (n s : ℕ) → IsLevelTable setup.levels → IsLegal setup sites segments t
    → IsValueOf setup (packets_of s (take n (journal_of t)))
    (shown (length sites.stations) (take n (journal_of t)) s)

-- Nothing is legal for no segments.
abbrev pub LegalAtStart : Type 0
LegalAtStart = (setup : Setup) (sites : SitesView)
    → IsLegal setup sites [] no_transcript

-- The kept packets of a lane are the kept ones of its packets.
abbrev pub KeptByLane : Type 0
KeptByLane = (lanes lane : ℕ) (earlier packets : List Packet)
    → of_lane lanes lane (kept_after earlier packets)
    ≡ kept_after (of_lane lanes lane earlier) (of_lane lanes lane packets)

-- In a valid history the entries of a lane are those of its packets.
abbrev pub PacketsOfLane : Type 0
PacketsOfLane = (setup : Setup) (stations lane : ℕ) (history : List Entry)
    → IsValidHistory setup stations history
    → map packet_of (entries_of_lane lane history)
    ≡ of_lane setup.lanes lane (map packet_of history)

-- What holds the kept packets in file order holds them lane by lane.
abbrev pub KeptIsByLane : Type 0
KeptIsByLane = (setup : Setup) (stations : ℕ) (history : List Entry) (packets : List Packet)
    → IsValidHistory setup stations history → HoldsKept history packets
    → HoldsKeptByLane setup.lanes history packets

-- A valid history has as many entries as all lanes together.
abbrev pub LanesCounted : Type 0
LanesCounted = (setup : Setup) (stations : ℕ) (history : List Entry)
    → IsValidHistory setup stations history
    → length history
    ≡ sum_by (λ lane. length (entries_of_lane lane history)) (range_with_len 0 setup.lanes)

-- What joins a legal journal is the legal part of one segment more, where the new journal has of
-- each lane the kept ones of its packets.
abbrev pub PartOfLanes : Type 0
PartOfLanes = (setup : Setup) (sites : SitesView) (segments : List (List Packet)) (read : ℕ)
    (t : Transcript) (segment : List Packet) (part : List Entry)
    → IsLegalOver setup sites segments read t
    → IsValidHistory setup (length sites.stations) (journal_of t ++ part)
    → HoldsKeptByLane setup.lanes (journal_of t ++ part) (flat_map (λ s. s) segments ++ segment)
    → HoldsByLane setup.lanes part (kept_after (flat_map (λ s. s) segments) segment)

-- It has as many entries as it has packets.
abbrev pub PartIsCounted : Type 0
PartIsCounted = (setup : Setup) (part : List Entry) (packets : List Packet)
    → HoldsByLane setup.lanes part packets → length part ≡ length packets

-- The entries of one segment more join a legal transcript: all kept ones of its packets, those of
-- each lane in file order. Its marks have the readings that they had.
abbrev pub PartJoins : Type 0
PartJoins = (setup : Setup) (sites : SitesView) (segments : List (List Packet)) (read : ℕ)
    (t : Transcript) (segment : List Packet) (part : List Entry)
    → read ≤ length segments → IsLegalOver setup sites segments read t
    → HoldsByLane setup.lanes part (kept_after (flat_map (λ s. s) segments) segment)
    → IsValidHistory setup (length sites.stations) (journal_of t ++ part)
    → IsLegalOver setup sites (segments ++ segment ∷ []) read (with_part t part)

-- The readings at the next mark join, where at most one segment comes after it: each over a front
-- that holds all entries up to that mark.
abbrev pub ReadingsJoin : Type 0
ReadingsJoin = (setup : Setup) (sites : SitesView) (segments : List (List Packet)) (read : ℕ)
    (t : Transcript) (readings : List Reading)
    → read < length segments → length segments ≤ read + 2
    → IsLegalOver setup sites segments read t
    → AreReadingsFrom sites (length (entries_up_to (read + 1) t)) (journal_of t) readings
    → IsLegalOver setup sites segments (read + 1) (with_readings t readings)

-- Readings over the whole journal are such ones, at any mark.
abbrev pub OverIsFrom : Type 0
OverIsFrom = (sites : SitesView) (t : Transcript) (m : ℕ) (readings : List Reading)
    → AreReadingsOver sites (journal_of t) readings
    → AreReadingsFrom sites (length (entries_up_to m t)) (journal_of t) readings

-- A part more joins the journal; the entries up to the mark before it are the journal before.
abbrev pub PartAdds : Type 0
PartAdds = (t : Transcript) (part : List Entry)
    → (journal_of (with_part t part) ≡ journal_of t ++ part)
    × (entries_up_to (length t.parts) (with_part t part) ≡ journal_of t)

-- There is one part for each segment.
abbrev pub OnePartEach : Type 0
OnePartEach = (setup : Setup) (sites : SitesView) (segments : List (List Packet)) (read : ℕ)
    (t : Transcript) → IsLegalOver setup sites segments read t
    → length t.parts ≡ length segments

-- A transcript that is right with readings at so many marks is right with those of the first of
-- them alone.
abbrev pub FewerReadings : Type 0
FewerReadings = (setup : Setup) (sites : SitesView) (segments : List (List Packet))
    (read fewer : ℕ) (t : Transcript) → fewer ≤ read → IsLegalOver setup sites segments read t
    → IsLegalOver setup sites segments fewer
    (record { parts = t.parts; readings = take fewer t.readings })

-- A packet taken by a lane in which nothing waits keeps the lane's backlog.
abbrev pub TakingKeeps : Type 0
TakingKeeps = (setup : Setup) (stations : ℕ) (taken : List Packet) (p : Packet) (sent : List Entry)
    → IsLevelTable setup.levels → p.station.0 < stations
    → IsBacklog setup stations (lane_of setup.lanes p.station.0) taken None sent
    → IsBacklog setup stations (lane_of setup.lanes p.station.0) (taken ++ p ∷ [])
    (waiting_after setup taken p) sent

-- So does what its station gives for it: a kept packet's entry waits then.
abbrev pub GivingKeeps : Type 0
GivingKeeps = (setup : Setup) (stations : ℕ) (taken : List Packet) (p : Packet) (sent : List Entry)
    (given : Taken) → p.station.0 < stations
    → Gives setup taken (record { 0 = lane_of setup.lanes p.station.0 }) p given
    → IsBacklog setup stations (lane_of setup.lanes p.station.0) taken None sent
    → IsBacklog setup stations (lane_of setup.lanes p.station.0) (taken ++ p ∷ [])
    (waiting_of given) sent

-- A station stands for the packets that another one's packet joins, as before.
abbrev pub OthersStand : Type 0
OthersStand = (station : Station) (setup : Setup) (s : ℕ) (packets : List Packet) (p : Packet)
    → p.station.0 ≢ s → Stands station setup s packets → Stands station setup s (packets ++ p ∷ [])

-- A valid history holds no key of a station twice.
abbrev pub EachOnce : Type 0
EachOnce = (setup : Setup) (stations : ℕ) (history : List Entry)
    → IsValidHistory setup stations history → IsEachOnce history

-- A valid history stays valid when a lane's next entry joins its end: one that is correct after
-- what the lane sent.
abbrev pub NextEntryJoins : Type 0
NextEntryJoins = (setup : Setup) (stations lane : ℕ) (e : Entry) (sent all : List Entry)
    → IsValidHistory setup stations all → IsInLaneOrder lane sent all → e.lane.0 ≡ lane
    → IsEntryAfter setup stations sent e → IsValidHistory setup stations (all ++ e ∷ [])

-- So it does when a lane's waiting entry joins: the lane's own order and backlog are enough.
abbrev pub WaitingEntryJoins : Type 0
WaitingEntryJoins = (setup : Setup) (stations lane : ℕ) (taken : List Packet) (e : Entry)
    (sent all : List Entry) → IsValidHistory setup stations all → IsInLaneOrder lane sent all
    → IsBacklog setup stations lane taken (Some e) sent
    → IsValidHistory setup stations (all ++ e ∷ [])

-- An entry sent joins its lane's order, and leaves those of the others.
abbrev pub OrderJoins : Type 0
OrderJoins = (lane : ℕ) (e : Entry) (sent all : List Entry) → e.lane.0 ≡ lane
    → IsInLaneOrder lane sent all → IsInLaneOrder lane (sent ++ e ∷ []) (all ++ e ∷ [])

abbrev pub OrderStays : Type 0
OrderStays = (lane : ℕ) (e : Entry) (sent all : List Entry) → e.lane.0 ≢ lane
    → IsInLaneOrder lane sent all → IsInLaneOrder lane sent (all ++ e ∷ [])

-- It leaves the backlog of its lane.
abbrev pub SendingKeeps : Type 0
SendingKeeps = (setup : Setup) (stations lane : ℕ) (taken : List Packet) (e : Entry)
    (sent : List Entry) → IsBacklog setup stations lane taken (Some e) sent
    → IsBacklog setup stations lane taken None (sent ++ e ∷ [])

-- The six facts hold at the start, after each step by an event that names what exists, and after
-- all such events.
abbrev pub FactsAtStart : Type 0
FactsAtStart = (setup : Setup) (stations : ℕ) → KeepsFacts setup stations start

abbrev pub StepKeepsFacts : Type 0
StepKeepsFacts = (setup : Setup) (sites : SitesView) (s : State) (event : Event)
    → IsLevelTable setup.levels → NamesExist setup sites event
    → KeepsFacts setup (length sites.stations) s
    → KeepsFacts setup (length sites.stations) (step setup s event)

abbrev pub EventsKeepFacts : Type 0
EventsKeepFacts = (setup : Setup) (sites : SitesView) (events : List Event)
    → IsLevelTable setup.levels → All (NamesExist setup sites) events
    → KeepsFacts setup (length sites.stations) (state_after setup start events)

-- These are the replies to the events from the start, and this reading is the reply at position i,
-- to a read of the area.
pub record Replied (setup : Setup) (sites : SitesView) (events : List Event) (replies : List Reply)
    (i : ℕ) (area : AreaNo) (reading : Reading) : Type 0 where
  pub are_replies : AreReplies setup sites start events replies
  pub read : IsReadAt events replies i area reading

-- Each reading is over a front of what is gathered in the end, and says the predictions over it.
abbrev pub FrontIsGathered : Type 0
FrontIsGathered = (setup : Setup) (sites : SitesView) (events : List Event) (replies : List Reply)
    (i : ℕ) (area : AreaNo) (reading : Reading) → Replied setup sites events replies i area reading
    → reading.front ≤ length (state_after setup start events).gathered

abbrev pub AnswersArePredictions : Type 0
AnswersArePredictions = (setup : Setup) (sites : SitesView) (events : List Event)
    (replies : List Reply) (i : ℕ) (area : AreaNo) (reading : Reading)
    → Replied setup sites events replies i area reading
    → IsSomeAnd (slice_get (areas_of sites.targets) area.0) (λ name. ArePredictions sites.stations
    (take reading.front (state_after setup start events).gathered)
    (targets_of name sites.targets) reading.answers)

-- That front is what is published at that moment. It holds all that its session had seen before.
abbrev pub FrontIsPublished : Type 0
FrontIsPublished = (setup : Setup) (sites : SitesView) (events : List Event) (replies : List Reply)
    (i : ℕ) (area : AreaNo) (reading : Reading) → Replied setup sites events replies i area reading
    → reading.front ≡ (state_after setup start (take i events)).published

abbrev pub FrontHoldsSeen : Type 0
FrontHoldsSeen = (setup : Setup) (sites : SitesView) (events : List Event) (replies : List Reply)
    (i : ℕ) (area : AreaNo) (reading : Reading) → Replied setup sites events replies i area reading
    → (state_after setup start (take i events)).seen area.0 ≤ reading.front

-- The fronts of a session never fall.
abbrev pub FrontsRise : Type 0
FrontsRise = (setup : Setup) (sites : SitesView) (events : List Event) (replies : List Reply)
    (i j : ℕ) (area : AreaNo) (earlier later : Reading) → i ≤ j
    → Replied setup sites events replies i area earlier
    → Replied setup sites events replies j area later → earlier.front ≤ later.front

-- Events that name what exists have replies, one for each, and no others.
abbrev pub RepliesExist : Type 0
RepliesExist = (setup : Setup) (sites : SitesView) (events : List Event)
    → All (NamesExist setup sites) events
    → (replies : List Reply) × AreReplies setup sites start events replies

abbrev pub OneForEach : Type 0
OneForEach = (setup : Setup) (sites : SitesView) (s : State) (events : List Event)
    (replies : List Reply) → AreReplies setup sites s events replies
    → length replies ≡ length events

abbrev pub NoOthers : Type 0
NoOthers = (setup : Setup) (sites : SitesView) (s : State) (events : List Event)
    (replies others : List Reply) → AreReplies setup sites s events replies
    → AreReplies setup sites s events others → others ≡ replies
