-- The rule of the queue (the project's own). Whatever the threads do, at each moment what was
-- gathered and what is queued are one valid history, and what each lane sent is its entries there.
use Rattle.std.specs.Prelude.{◌≡◌, ℕ, zero, suc, ◌<◌, ◌≤◌, ◌⊎◌, true, false, List, [], ◌∷◌, ◌++◌}
use Rattle.std.specs.Prelude.{Option, Some, None, IsSome, slice_index_or}
use mathlib.Core.List.{IsPrefix}
use mathlib.Core.Option.{some}
use lib.ListN.{get_elem?}
use Rattle.crossbeam_queue.specs.declared.array_queue.Doing.{Doing}
use Rattle.crossbeam_queue.specs.declared.array_queue.Slotted.{Slotted}
use Rattle.crossbeam_queue.specs.Passes.{Pass, view, IsPassOf}
use Rattle.plum_base.specs.declared.entry.Entry.{Entry}
use Rattle.plum_core.specs.History.{entries_of_lane, IsEntryAfter, IsValidHistory}
use Rattle.plum_core.specs.Facts.{IsInLaneOrder, IsQueueBounded}
use Rattle.plum_lanes.specs.declared.rule.Basis.{Basis}
use Rattle.plum_lanes.specs.declared.rule.View.{View}

-- The entries are a valid history of this basis.
abbrev pub IsValid : Basis → List Entry → Type 0
IsValid basis history = IsValidHistory basis.setup basis.stations history

-- The entry is correct after those before it.
abbrev pub IsNext : Basis → List Entry → Entry → Type 0
IsNext basis earlier e = IsEntryAfter basis.setup basis.stations earlier e

-- the list that is settled for a lane: what it sent, as the gatherer learned it last; empty where
-- none is
abbrev pub settled_at : List (List Entry) → ℕ → List Entry
settled_at settled lane = slice_index_or settled lane []

-- the settled lists, with this one for the lane, and for the others as before
abbrev pub settle : List (List Entry) → ℕ → List Entry → List (List Entry)
settle [] zero sent = sent ∷ []
settle [] (suc lane) sent = [] ∷ settle [] lane sent
settle (x ∷ xs) zero sent = sent ∷ xs
settle (x ∷ xs) (suc lane) sent = x ∷ settle xs lane sent

-- what the gatherer's pass knows
abbrev pub gatherer : Option Basis → List Entry → ℕ → List (List Entry) → View
gatherer basis gathered out settled = record {
  basis = basis;
  gathers = true;
  sends = false;
  lane = 0;
  sent = [];
  gathered = gathered;
  out = out;
  settled = settled;
}

-- what a lane's pass knows
abbrev pub sender : Option Basis → ℕ → List Entry → View
sender basis lane sent = record {
  basis = basis;
  gathers = false;
  sends = true;
  lane = lane;
  sent = sent;
  gathered = [];
  out = 0;
  settled = [];
}

-- a pass that knows nothing: a spare one, or that of a lane that came back
abbrev pub spent : View
spent = record {
  basis = None;
  gathers = false;
  sends = false;
  lane = 0;
  sent = [];
  gathered = [];
  out = 0;
  settled = [];
}

-- the first pass, before the basis is named
abbrev pub blank : View
blank = gatherer None [] 0 []

-- The gatherer has one pass, and it knows all that the rule says of it.
abbrev pub FitsGatherer : Basis → ℕ → List Entry → ℕ → List (List Entry) → ℕ → View → Type 0
FitsGatherer basis gatherer_pass gathered out settled pass v =
    v.gathers ≡ true → (pass ≡ gatherer_pass) × (v ≡ gatherer (Some basis) gathered out settled)

-- Each lane below `out` has one pass, and what it sent is its entries in all that was sent.
abbrev pub FitsSender : Basis → ℕ → (ℕ → ℕ) → List Entry → ℕ → View → Type 0
FitsSender basis out lane_pass all pass v =
    v.sends ≡ true
    → (v.lane < out) × (pass ≡ lane_pass v.lane) × (v.basis ≡ Some basis)
    × IsInLaneOrder v.lane v.sent all

-- The queue holds these entries, and the passes know these views.
pub record IsRuled (queue : List Entry) (views : List View) : Type 0 where
  pub basis : Basis
  -- Which pass is the gatherer's, how many lanes have theirs, and which is that of each.
  pub gatherer_pass : ℕ
  pub out : ℕ
  pub lane_pass : ℕ → ℕ
  pub gathered : List Entry
  pub settled : List (List Entry)
  pub history_valid : IsValid basis (gathered ++ queue)
  pub queue_bounded : IsQueueBounded basis.setup.queue queue
  -- What is settled of a lane is a front of its entries, and all of them where its pass is back.
  pub front : (lane : ℕ)
      → IsPrefix (settled_at settled lane) (entries_of_lane lane (gathered ++ queue))
  pub returned : (lane : ℕ) → out ≤ lane
      → settled_at settled lane ≡ entries_of_lane lane (gathered ++ queue)
  pub each : (pass : ℕ) (v : View) → get_elem? views pass ≡ some v
      → FitsGatherer basis gatherer_pass gathered out settled pass v
      × FitsSender basis out lane_pass (gathered ++ queue) pass v

-- Nothing happened yet, or it is ruled.
abbrev pub Holds : List Entry → List View → Type 0
Holds queue views = ((queue ≡ []) × (views ≡ blank ∷ [])) ⊎ IsRuled queue views

-- The gatherer has taken one entry more, and what it gathered is a valid history.
pub record Gathers (v : View) (e : Entry) (w : View) : Type 0 where
  pub view : w ≡ gatherer v.basis (v.gathered ++ e ∷ []) v.out v.settled
  pub valid : (basis : Basis) → v.basis ≡ Some basis → IsValid basis (v.gathered ++ e ∷ [])

-- What the gatherer learns where the queue holds these.
pub record IsGatheredThen (v : View) (queue : List Entry) : Type 0 where
  pub valid : (basis : Basis) → v.basis ≡ Some basis → IsValid basis (v.gathered ++ queue)
  pub bounded : (basis : Basis) → v.basis ≡ Some basis → IsQueueBounded basis.setup.queue queue
  pub front : (lane : ℕ)
      → IsPrefix (settled_at v.settled lane) (entries_of_lane lane (v.gathered ++ queue))
  pub returned : (lane : ℕ) → v.out ≤ lane
      → settled_at v.settled lane ≡ entries_of_lane lane (v.gathered ++ queue)

-- What a lane learns where the queue holds these.
pub record IsSentThen (v : View) (queue : List Entry) : Type 0 where
  pub gathered : List Entry
  pub in_order : IsInLaneOrder v.lane v.sent (gathered ++ queue)
  pub valid : (basis : Basis) → v.basis ≡ Some basis → IsValid basis (gathered ++ queue)

-- The pass is the gatherer's, of this queue, and knows the basis.
abbrev pub MayGather : {Q A : Type 0} → Slotted (Option Entry) (Doing Entry View) Q A
    → Pass Entry View → Type 0
MayGather ring pass =
    IsPassOf ring pass × ((view pass).gathers ≡ true) × IsSome (view pass).basis
