-- A machine at work, and the state that it is in.
use Rattle.std.specs.Prelude.{◌≡◌, ℕ, ◌<◌, List, length, slice_index, slice_index_or, None}
use Rattle.plum_base.specs.declared.setup.Setup.{Setup}
use Rattle.plum_base.specs.declared.packet.Packet.{Packet}
use Rattle.plum_base.specs.Lane.{lane_of}
use Rattle.plum_base.specs.Sites.{SitesView, areas_of}
use Rattle.plum_core.specs.declared.event.Event.{Event}
use Rattle.plum_core.specs.declared.event.Reply.{Reply}
use Rattle.plum_core.specs.declared.machine.Machine.{Machine}
use Rattle.plum_core.specs.Machine.{State, step, IsReply}
use Rattle.plum_core.specs.Station.{StandFor}

-- how many stations, lanes and areas it has
pub record Sizes : Type 0 where
  pub stations : ℕ
  pub lanes : ℕ
  pub areas : ℕ

abbrev pub sizes_of : Machine → Sizes
sizes_of m = record {
  stations = length m.network.stations.items;
  lanes = length m.waiting.items;
  areas = length m.seen.items;
}

-- It has the stations, the lanes and the areas of the setup and the sites.
abbrev pub IsSized : Setup → SitesView → Machine → Type 0
IsSized setup sites m =
    sizes_of m ≡ record {
      stations = length sites.stations;
      lanes = setup.lanes;
      areas = length (areas_of sites.targets);
    }

-- what the lane of a station took
abbrev pub taken_of : Setup → State → ℕ → List Packet
taken_of setup s station = (s.lanes (lane_of setup.lanes station)).taken

-- The machine is in this state. What the lanes took, its stations stand for; what they sent, no
-- part of it keeps.
pub record Follows (setup : Setup) (m : Machine) (s : State) : Type 0 where
  pub network : StandFor m.network setup (taken_of setup s)
  pub waiting : (lane : ℕ) → lane < length m.waiting.items
      → slice_index_or m.waiting.items lane None ≡ (s.lanes lane).waiting
  pub queue : m.queue.items ≡ s.queue
  pub gathered : m.gathered.items ≡ s.gathered
  pub appended : m.appended ≡ s.appended
  pub published : m.published ≡ s.published
  pub seen : (area : ℕ) → area < length m.seen.items → slice_index m.seen.items area ≡ s.seen area

-- In whatever state it was, it is in what the event leaves of that state.
abbrev pub TakesStep : Setup → Event → Machine → Machine → Type 0
TakesStep setup event before after =
    (state : State) → Follows setup before state → Follows setup after (step setup state event)

-- In whatever state it was, it is in that state still.
abbrev pub StaysAsItWas : Setup → Machine → Machine → Type 0
StaysAsItWas setup before after =
    (state : State) → Follows setup before state → Follows setup after state

-- In whatever state it was, this is a reply to the event there.
abbrev pub Replies : Setup → SitesView → Event → Machine → Reply → Type 0
Replies setup sites event before reply =
    (state : State) → Follows setup before state → IsReply setup sites state event reply
