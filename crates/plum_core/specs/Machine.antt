-- The machine of a centre (the project's own): what stations' lanes, the queue, the gatherer, the
-- publisher and the sessions do, one step of one of them at a time. Threads take these steps in
-- whatever order.
use Rattle.std.specs.Prelude.{◌≡◌, ◌≢◌, ℕ, ◌+◌, ◌<◌, ◌≤◌, ⊤, ◌==◌, nat_le, max}
use Rattle.std.specs.Prelude.{if◌then◌else◌, List, [], ◌∷◌, ◌++◌, length, take, slice_get, Option}
use Rattle.std.specs.Prelude.{Some, None, IsSome, IsSomeAnd}
use Rattle.plum_base.specs.declared.answers.Reading.{Reading}
use Rattle.plum_base.specs.declared.entry.Entry.{Entry}
use Rattle.plum_base.specs.declared.lane.Offered.TheVariants as offers
use Rattle.plum_base.specs.declared.numbers.AreaNo.{AreaNo}
use Rattle.plum_base.specs.declared.packet.Packet.{Packet}
use Rattle.plum_base.specs.declared.setup.Setup.{Setup}
use Rattle.plum_base.specs.Sites.{SitesView, areas_of}
use Rattle.plum_base.specs.Lane.{lane_of}
use Rattle.plum_seq.specs.Keys.{is_kept}
use Rattle.plum_core.specs.declared.event.Event.{Event}
use Rattle.plum_core.specs.declared.event.Event.TheVariants.{Take, Offer, Pop, Append, Publish}
use Rattle.plum_core.specs.declared.event.Event.TheVariants.{Read, Learn}
use Rattle.plum_core.specs.declared.event.Reply.{Reply}
use Rattle.plum_core.specs.declared.event.Reply.TheVariants as replies
use Rattle.plum_core.specs.History.{entry_of}
use Rattle.plum_core.specs.Station.{IsTold}
use Rattle.plum_core.specs.Transcript.{ArePredictions}
use Rattle.plum_base.specs.Sites.{targets_of}

-- what a lane took and sent, and the entry that waits in it to be sent, if one does
pub record Lane : Type 0 where
  pub taken : List Packet
  pub waiting : Option Entry
  pub sent : List Entry

-- The lanes by their numbers; the queue, its first entry ahead; the entries gathered from it; how
-- many of these are appended to the board, and how many are published; and how many the session of
-- each area has seen.
pub record State : Type 0 where
  pub lanes : ℕ → Lane
  pub queue : List Entry
  pub gathered : List Entry
  pub appended : ℕ
  pub published : ℕ
  pub seen : ℕ → ℕ

abbrev pub new_lane : Lane
new_lane = record { taken = []; waiting = None; sent = [] }

abbrev pub start : State
start = record {
  lanes = λ _. new_lane;
  queue = [];
  gathered = [];
  appended = 0;
  published = 0;
  seen = λ _. 0;
}

-- one of them changed
abbrev pub changed : {X : Type 0} → ℕ → X → (ℕ → X) → ℕ → X
changed position x xs n = if n == position then x else xs n

-- a kept packet's entry waits; a repeat is taken and forgotten
abbrev pub waiting_after : Setup → List Packet → Packet → Option Entry
waiting_after setup taken p = if is_kept taken p then Some (entry_of setup taken p) else None

-- a packet comes to a lane, which takes none while an entry waits
abbrev pub lane_takes : Setup → Packet → Lane → Option Entry → Lane
lane_takes setup p lane (Some e) = lane
lane_takes setup p lane None = record {
  taken = lane.taken ++ p ∷ [];
  waiting = waiting_after setup lane.taken p;
  sent = lane.sent;
}

-- the waiting entry of a lane joins what it sent
abbrev pub lane_sends : Entry → Lane → Lane
lane_sends e lane = record { taken = lane.taken; waiting = None; sent = lane.sent ++ e ∷ [] }

-- the waiting entry of a lane is sent, unless the queue is full
abbrev pub lane_offers : Setup → State → ℕ → Option Entry → State
lane_offers setup s lane None = s
lane_offers setup s lane (Some e) =
    if length s.queue == setup.queue then s else record s {
      lanes = changed lane (lane_sends e (s.lanes lane)) s.lanes;
      queue = s.queue ++ e ∷ [];
    }

-- the first entry of the queue is gathered
abbrev pub gather : State → List Entry → State
gather s [] = s
gather s (e ∷ es) = record s { queue = es; gathered = s.gathered ++ e ∷ [] }

-- what an event leaves
abbrev pub step : Setup → State → Event → State
step setup s (Take p) =
    let n = lane_of setup.lanes p.station.0 in
    record s { lanes = changed n (lane_takes setup p (s.lanes n) (s.lanes n).waiting) s.lanes }
step setup s (Offer lane) = lane_offers setup s lane.0 (s.lanes lane.0).waiting
step setup s Pop = gather s s.queue
step setup s Append =
    if s.appended == length s.gathered then s else record s { appended = s.appended + 1 }
step setup s Publish = record s { published = s.appended }
step setup s (Read area) = record s { seen = changed area.0 s.published s.seen }
step setup s (Learn area n) =
    if nat_le n s.published
    then record s { seen = changed area.0 (max n (s.seen area.0)) s.seen }
    else s

-- what these events leave, one after another
abbrev pub state_after : Setup → State → List Event → State
state_after setup s [] = s
state_after setup s (e ∷ es) = state_after setup (step setup s e) es

-- The reply to a packet: held where an entry waits; else what is told of it after those before it.
abbrev pub IsTakeReply : Lane → Packet → Reply → Type 0
IsTakeReply lane p replies.Held = IsSome lane.waiting
IsTakeReply lane p (replies.Took took) = (lane.waiting ≡ None) × IsTold lane.taken p took
IsTakeReply lane p _ = ⊥

-- The reply to an offer: idle where nothing waits; busy where the queue is full; else sent.
abbrev pub IsOfferReply : Setup → State → Lane → Reply → Type 0
IsOfferReply setup s lane replies.Idle = lane.waiting ≡ None
IsOfferReply setup s lane (replies.Offered offers.Busy) =
    IsSome lane.waiting × (length s.queue ≡ setup.queue)
IsOfferReply setup s lane (replies.Offered offers.Sent) =
    IsSome lane.waiting × (length s.queue ≢ setup.queue)
IsOfferReply setup s lane _ = ⊥

-- The reply to a pop: the key of the first entry, if there is one.
abbrev pub IsPopReply : List Entry → Reply → Type 0
IsPopReply queue replies.Empty = queue ≡ []
IsPopReply queue (replies.Popped key) = IsSomeAnd (slice_get queue 0) (λ e. e.key ≡ key)
IsPopReply queue _ = ⊥

-- The reply to an append: nothing where all that is gathered is appended.
abbrev pub IsAppendReply : State → Reply → Type 0
IsAppendReply s replies.Nothing = s.appended ≡ length s.gathered
IsAppendReply s replies.Appended = s.appended ≢ length s.gathered
IsAppendReply s _ = ⊥

-- The reading of an area: over the published front, the predictions at the targets of the area, in
-- file order.
abbrev pub IsReadReply : SitesView → State → ℕ → Reply → Type 0
IsReadReply sites s area (replies.Read reading) =
    (reading.front ≡ s.published)
    × IsSomeAnd (slice_get (areas_of sites.targets) area) (λ name. ArePredictions
    sites.stations (take s.published s.gathered) (targets_of name sites.targets) reading.answers)
IsReadReply sites s area _ = ⊥

-- The reply to a session that is told of n entries: nothing where so many are not published; else
-- the greater of n and of what it has seen.
abbrev pub IsLearnReply : State → ℕ → ℕ → Reply → Type 0
IsLearnReply s area n replies.Nothing = s.published < n
IsLearnReply s area n (replies.Learned seen) = (n ≤ s.published) × (seen ≡ max n (s.seen area))
IsLearnReply s area n _ = ⊥

-- The reply to an event.
abbrev pub IsReply : Setup → SitesView → State → Event → Reply → Type 0
IsReply setup sites s (Take p) reply =
    IsTakeReply (s.lanes (lane_of setup.lanes p.station.0)) p reply
IsReply setup sites s (Offer lane) reply = IsOfferReply setup s (s.lanes lane.0) reply
IsReply setup sites s Pop reply = IsPopReply s.queue reply
IsReply setup sites s Append reply = IsAppendReply s reply
IsReply setup sites s Publish reply = reply ≡ replies.Published s.appended
IsReply setup sites s (Read area) reply = IsReadReply sites s area.0 reply
IsReply setup sites s (Learn area n) reply = IsLearnReply s area.0 n reply

-- The replies to events, one for each.
abbrev pub AreReplies : Setup → SitesView → State → List Event → List Reply → Type 0
AreReplies setup sites s [] [] = ⊤
AreReplies setup sites s (event ∷ events) (reply ∷ more) =
    IsReply setup sites s event reply × AreReplies setup sites (step setup s event) events more
AreReplies setup sites s [] (reply ∷ more) = ⊥
AreReplies setup sites s (event ∷ events) [] = ⊥

-- The i-th event, from 0, is a read of this area, and this reading is the reply to it.
pub record IsReadAt (events : List Event) (all : List Reply) (i : ℕ) (area : AreaNo)
    (reading : Reading) : Type 0 where
  pub event : slice_get events i ≡ Some (Read area)
  pub reply : slice_get all i ≡ Some (replies.Read reading)

-- The stations, lanes and areas that an event names exist.
abbrev pub NamesExist : Setup → SitesView → Event → Type 0
NamesExist setup sites (Take p) = p.station.0 < length sites.stations
NamesExist setup sites (Offer lane) = lane.0 < setup.lanes
NamesExist setup sites Pop = ⊤
NamesExist setup sites Append = ⊤
NamesExist setup sites Publish = ⊤
NamesExist setup sites (Read area) = area.0 < length (areas_of sites.targets)
NamesExist setup sites (Learn area n) = area.0 < length (areas_of sites.targets)
