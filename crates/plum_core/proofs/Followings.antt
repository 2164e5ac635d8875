-- A machine at work, one step on.
use Rattle.std.proofs.Common.{◌≡◌, ◌≢◌, ℕ, ◌<◌, Bool, false, List, [], ◌∷◌, ◌++◌, length}
use Rattle.std.proofs.Common.{length-set, set, get_or, get_or-set_same, get_or-set_other, Option}
use Rattle.std.proofs.Common.{Some, None, inl, inr, refl, sym, ◌∙◌, ap, subst, arith, eqb-true}
use Rattle.std.proofs.Common.{eq-eqb}
use Rattle.std.proofs.lemmas.Bool.{cases_Bool, false≢true}
use Rattle.std.proofs.lemmas.Bool.Decides.{nat_tests}
use Rattle.std.proofs.lemmas.List.{set-get_or}
use Rattle.std.specs.Prelude.{if◌then◌else◌, ◌==◌}
use Rattle.std.specs.Option.{is_some}
use Rattle.plum_base.specs.declared.entry.Entry.{Entry}
use Rattle.plum_base.specs.declared.numbers.LaneNo.{LaneNo}
use Rattle.plum_base.specs.declared.numbers.Tenths.{Tenths}
use Rattle.plum_base.specs.declared.packet.Packet.{Packet}
use Rattle.plum_base.specs.declared.setup.Setup.{Setup}
use Rattle.plum_base.specs.Lane.{lane_of}
use Rattle.plum_seq.specs.Keys.{of_station, is_fresh}
use Rattle.plum_engine.specs.Engine.{value_of, OneValue}
use Rattle.plum_core.specs.declared.machine.Machine.{Machine}
use Rattle.plum_core.specs.declared.event.Event.TheVariants.{Take}
use Rattle.plum_core.specs.Following.{taken_of, Follows}
use Rattle.plum_core.specs.History.{packet_of, entry_of}
use Rattle.plum_core.specs.Machine.{Lane, State, changed, lane_takes, waiting_after, step}
use Rattle.plum_core.specs.Station.{StandFor, given_more, IsEntryOf}
use Rattle.plum_core.proofs.Networks.{StandFor-same, of_station-more}

module _ (one : OneValue) (setup : Setup) (taken : List Packet) where
  -- what the network gives for a packet is an entry of it
  abbrev Gives : Packet → Entry → Type 0
  Gives p e = IsEntryOf setup taken (record { 0 = lane_of setup.lanes p.station.0 }) p e

  -- an entry with a lane, with whether it is fresh and with a value
  with_parts : Entry → LaneNo → Bool → Option Tenths → Entry
  with_parts e lane fresh value = record {
    station = e.station;
    lane = lane;
    key = e.key;
    fresh = fresh;
    wave = e.wave;
    value = value;
  }

  -- the entry of its own packet
  entry_of-own : (e : Entry) → Gives (packet_of e) e → entry_of setup taken (packet_of e) ≡ e
  unfolding with_parts
  entry_of-own e is =
      let p : Packet = packet_of e in
      let fresh : Bool = is_fresh taken p in
      let value : Option Tenths = value_of setup (of_station e.station.0 (taken ++ p ∷ [])) in
      ap (λ l. with_parts e l fresh value) (sym is.lane_is)
      ∙ ap (λ f. with_parts e e.lane f value) (sym is.fresh)
      ∙ ap (with_parts e e.lane e.fresh) (sym (one setup _ e.value is.value))

  -- A kept packet has one entry.
  entry_of-is : (p : Packet) (e : Entry) → Gives p e → entry_of setup taken p ≡ e
  entry_of-is p e entry =
      subst (λ q. Gives q e → entry_of setup taken q ≡ e) entry.same_packet (entry_of-own e) entry

  -- It waits.
  pub waiting_after-kept : (p : Packet) (e : Entry) → Gives p e
      → waiting_after setup taken p ≡ Some e
  waiting_after-kept p e entry =
      ap (λ b. if b then Some (entry_of setup taken p) else None) entry.kept
      ∙ ap Some (entry_of-is p e entry)

module _ (setup : Setup) (state : State) (p : Packet) where
  -- the packet's lane
  abbrev n : ℕ
  n = lane_of setup.lanes p.station.0

  -- the lane with one more packet, and what waits then
  abbrev lane : Option Entry → Lane
  lane waiting = record {
    taken = (state.lanes n).taken ++ p ∷ [];
    waiting = waiting;
    sent = (state.lanes n).sent;
  }

  -- the state with that lane
  abbrev pub with_lane : Option Entry → State
  with_lane waiting = record state { lanes = changed n (lane waiting) state.lanes }

  -- what the lanes took of each station, one more packet on
  taken_more : (waiting : Option Entry) (s : ℕ)
      → of_station s (given_more (taken_of setup state) p s)
      ≡ of_station s (taken_of setup (with_lane waiting) s)
  taken_more waiting s =
      let m : ℕ = lane_of setup.lanes s in
      let given : ℕ → List Packet = λ k.
      if p.station.0 == s then (state.lanes k).taken ++ p ∷ [] else (state.lanes k).taken in
      let after : Bool → List Packet = λ b. (if b then lane waiting else state.lanes m).taken in
      elim (cases_Bool (m == n)) [
        | inl same ↦
            ap (λ k. of_station s (given k)) (eqb-true m n same)
            ∙ of_station-more (state.lanes n).taken p s
            ∙ ap (λ b. of_station s (after b)) (sym same)
        | inr apart ↦
            let not_own : (p.station.0 == s) ≡ false = elim (cases_Bool (p.station.0 == s)) [
              | inl own ↦
                  let of_lane = ap (lane_of setup.lanes) (sym (eqb-true p.station.0 s own)) in
                  absurd (false≢true (sym apart ∙ eq-eqb m n of_lane))
              | inr other ↦ other
            ] in
            let chosen : Bool → List Packet = λ b.
            if b then (state.lanes m).taken ++ p ∷ [] else (state.lanes m).taken in
            ap (λ b. of_station s (chosen b)) not_own
            ∙ ap (λ b. of_station s (after b)) (sym apart)
      ]

-- what waits, in one lane changed
pub waits-changed : (xs : List (Option Entry)) (lanes : ℕ → Lane) (n : ℕ) (new : Option Entry)
    (lane : Lane) → n < length xs → new ≡ lane.waiting
    → ((l : ℕ) → l < length xs → get_or xs l None ≡ (lanes l).waiting)
    → (l : ℕ) → l < length (set xs n new)
    → get_or (set xs n new) l None ≡ (changed n lane lanes l).waiting
waits-changed xs lanes n new lane listed is waits l below =
    elim (cases_Bool (l == n)) [
      | inl same ↦
          ap (λ k. get_or (set xs n new) k None) (eqb-true l n same)
          ∙ get_or-set_same xs n new None listed ∙ is
          ∙ ap (λ b. (if b then lane else lanes l).waiting) (sym same)
      | inr apart ↦
          let other : l ≢ n = grind (arith, nat_tests) in
          let below' : l < length xs = omega (arith, below, length-set xs n new) in
          get_or-set_other xs n l new None other ∙ waits l below'
          ∙ ap (λ b. (if b then lane else lanes l).waiting) (sym apart)
    ]

-- nothing waits at a position
nothing_waits : (xs : List (Option Entry)) (n : ℕ) (found : Option Entry)
    → found ≡ get_or xs n found → is_some found ≡ false → get_or xs n None ≡ None
nothing_waits xs n None is none = sym is
nothing_waits xs n (Some e) is none = absurd (false≢true (sym none))

-- the parts of a machine that taking a packet leaves
pub record TakingLeaves (m after : Machine) : Type 0 where
  pub queue : after.queue.items ≡ m.queue.items
  pub gathered : after.gathered.items ≡ m.gathered.items
  pub appended : after.appended ≡ m.appended
  pub published : after.published ≡ m.published
  pub seen : after.seen.items ≡ m.seen.items

-- The machine is in this state, and nothing waits at the position of the packet's lane.
pub record IsFree (setup : Setup) (state : State) (p : Packet) (m : Machine) (i : ℕ) : Type 0 where
  pub follows : Follows setup m state
  pub of_lane : i ≡ lane_of setup.lanes p.station.0
  pub listed : i < length m.waiting.items
  pub none : get_or m.waiting.items i None ≡ None

-- So it is where the machine finds none.
pub IsFree-found : (setup : Setup) (state : State) (p : Packet) (m : Machine) (i : ℕ)
    (found : Option Entry) → Follows setup m state → i ≡ lane_of m.network.lanes p.station.0
    → i < m.network.lanes → found ≡ get_or m.waiting.items i found → is_some found ≡ false
    → IsFree setup state p m i
IsFree-found setup state p m i found follows value bound is none = record {
  follows = follows;
  of_lane = value ∙ ap (λ lanes. lane_of lanes p.station.0) follows.network.lanes;
  listed = omega (arith, bound, m.lanes, m.waiting.ok.0);
  none = nothing_waits m.waiting.items i found is none;
}

module _ (setup : Setup) (state : State) (p : Packet) (m after : Machine) (i : ℕ)
    (free : IsFree setup state p m i) where
  -- the packet's lane
  abbrev k : ℕ
  k = lane_of setup.lanes p.station.0

  -- nothing waits in the packet's lane
  pub lane_is_free : (state.lanes k).waiting ≡ None
  lane_is_free =
      subst (λ n. (state.lanes n).waiting ≡ None) free.of_lane
      (sym (free.follows.waiting i free.listed) ∙ free.none)

  -- the packet is taken, and this waits
  Follows-with_lane : (waiting : Option Entry) → after.waiting.items ≡ set m.waiting.items i waiting
      → StandFor after.network setup (given_more (taken_of setup state) p) → TakingLeaves m after
      → Follows setup after (with_lane setup state p waiting)
  Follows-with_lane waiting waiting_is stand leaves =
      let here : Lane = lane setup state p waiting in
      let listed_k : k < length m.waiting.items =
      subst (λ k. k < length m.waiting.items) free.of_lane free.listed in
      let set_k : after.waiting.items ≡ set m.waiting.items k waiting =
      waiting_is ∙ ap (λ k. set m.waiting.items k waiting) free.of_lane in
      let Waits : List (Option Entry) → Type 0 = λ xs.
      (l : ℕ) → l < length xs → get_or xs l None ≡ (changed k here state.lanes l).waiting in
      let Seen : List ℕ → Type 0 = λ xs. (area : ℕ) → area < length xs
      → get_or xs area 0 ≡ state.seen area in
      record {
        network = StandFor-same after.network setup _ _ (taken_more setup state p waiting) stand;
        waiting =
            subst Waits (sym set_k)
            (waits-changed m.waiting.items state.lanes k waiting here listed_k refl
            free.follows.waiting);
        queue = leaves.queue ∙ free.follows.queue;
        gathered = leaves.gathered ∙ free.follows.gathered;
        appended = leaves.appended ∙ free.follows.appended;
        published = leaves.published ∙ free.follows.published;
        seen = subst Seen (sym leaves.seen) free.follows.seen;
      }

  -- The machine takes the step of the packet.
  pub Follows-taken : (waiting : Option Entry)
      → waiting_after setup (state.lanes k).taken p ≡ waiting
      → after.waiting.items ≡ set m.waiting.items i waiting
      → StandFor after.network setup (given_more (taken_of setup state) p) → TakingLeaves m after
      → Follows setup after (step setup state (Take p))
  Follows-taken waiting waits waiting_is stand leaves =
      let taken : Follows setup after (with_lane setup state p waiting) =
      Follows-with_lane waiting waiting_is stand leaves in
      let Taken : Option Entry → Type 0 = λ w. Follows setup after (record state {
        lanes = changed k (lane_takes setup p (state.lanes k) w) state.lanes;
      }) in
      subst Taken (sym lane_is_free)
      (subst (λ w. Follows setup after (with_lane setup state p w)) (sym waits) taken)

  -- a position at which nothing waits stays so
  pub waiting_stays : m.waiting.items ≡ set m.waiting.items i None
  waiting_stays =
      sym (ap (set m.waiting.items i) (sym free.none) ∙ set-get_or m.waiting.items i None)
