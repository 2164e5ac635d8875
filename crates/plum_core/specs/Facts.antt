-- What holds at each moment of the machine (the project's own). Each fact speaks of plain lists and
-- numbers, so that the rules of a shared queue and of a shared board say the same of theirs.
use Rattle.std.specs.Prelude.{◌≡◌, ℕ, ◌<◌, ◌≤◌, List, ◌++◌, length, Option, IfSome}
use Rattle.std.specs.Option.{option_to_list}
use Rattle.plum_base.specs.declared.entry.Entry.{Entry}
use Rattle.plum_base.specs.declared.packet.Packet.{Packet}
use Rattle.plum_base.specs.declared.setup.Setup.{Setup}
use Rattle.plum_core.specs.History.{entries_of_lane, IsEntryAfter, IsValidHistory, HoldsKept}
use Rattle.plum_core.specs.Machine.{State}

-- Lane order: what a lane sent is its entries in all that was sent, in order.
abbrev pub IsInLaneOrder : ℕ → List Entry → List Entry → Type 0
IsInLaneOrder lane sent all = sent ≡ entries_of_lane lane all

-- Lane backlog: the kept ones of the packets that the lane took are those that it sent, in order,
-- followed by the one that waits. What waits is of this lane, and the correct next entry of its
-- station.
pub record IsBacklog (setup : Setup) (stations lane : ℕ)
    (taken : List Packet) (waiting : Option Entry) (sent : List Entry) : Type 0 where
  pub kept : HoldsKept (sent ++ option_to_list waiting) taken
  pub next : IfSome waiting (λ e. (e.lane.0 ≡ lane) × IsEntryAfter setup stations sent e)

-- The queue is within its bound.
abbrev pub IsQueueBounded : ℕ → List Entry → Type 0
IsQueueBounded bound queue = length queue ≤ bound

-- What is published was appended before, and what is appended was gathered before.
abbrev pub IsPublishedGathered : ℕ → ℕ → ℕ → Type 0
IsPublishedGathered published appended gathered = (published ≤ appended) × (appended ≤ gathered)

-- A session has seen no more than is published.
abbrev pub IsSeenPublished : ℕ → ℕ → Type 0
IsSeenPublished seen published = seen ≤ published

-- The six facts that each step keeps.
pub record KeepsFacts (setup : Setup) (stations : ℕ) (s : State) : Type 0 where
  pub lanes_in_order : (lane : ℕ) → lane < setup.lanes
      → IsInLaneOrder lane (s.lanes lane).sent (s.gathered ++ s.queue)
  pub history_valid : IsValidHistory setup stations (s.gathered ++ s.queue)
  pub queue_bounded : IsQueueBounded setup.queue s.queue
  pub backlog : (lane : ℕ) → lane < setup.lanes
      → let l = s.lanes lane in IsBacklog setup stations lane l.taken l.waiting l.sent
  pub published_gathered : IsPublishedGathered s.published s.appended (length s.gathered)
  pub seen_published : (area : ℕ) → IsSeenPublished (s.seen area) s.published
