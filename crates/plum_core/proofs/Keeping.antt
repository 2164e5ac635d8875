-- Each step of the machine keeps the six facts.
use Rattle.std.proofs.Common.{◌≡◌, ℕ, ◌+◌, ◌<◌, ◌≤◌, Bool, false, List, [], ◌∷◌, ◌++◌, length}
use Rattle.std.proofs.Common.{Option, Some, None, inl, inr, refl, sym, ◌∙◌, ap, subst, arith}
use Rattle.std.proofs.Common.{append_assoc, length-append}
use Rattle.std.proofs.lemmas.Bool.{cases_Bool}
use Rattle.std.proofs.lemmas.Bool.Decides.{nat_tests}
use Rattle.std.proofs.lemmas.List.Elements.{All-head, All-tail}
use Rattle.std.specs.Prelude.{if◌then◌else◌, ◌==◌, nat_le, max, All}
use Rattle.plum_base.specs.declared.entry.Entry.{Entry}
use Rattle.plum_base.specs.declared.packet.Packet.{Packet}
use Rattle.plum_base.specs.declared.setup.Setup.{Setup}
use Rattle.plum_base.specs.Lane.{lane_of}
use Rattle.plum_base.specs.Levels.{IsLevelTable}
use Rattle.plum_base.specs.Sites.{SitesView}
use Rattle.plum_engine.specs.Engine.{ValueIs}
use Rattle.plum_core.specs.declared.event.Event.{Event}
use Rattle.plum_core.specs.declared.event.Event.TheVariants.{Take, Offer, Pop, Append, Publish}
use Rattle.plum_core.specs.declared.event.Event.TheVariants.{Read, Learn}
use Rattle.plum_core.specs.Facts.{IsInLaneOrder, IsBacklog, KeepsFacts}
use Rattle.plum_core.specs.History.{entries_of_lane, IsValidHistory}
use Rattle.plum_core.specs.Machine.{Lane, State, start, changed, lane_takes, lane_sends}
use Rattle.plum_core.specs.Machine.{lane_offers, gather, step, state_after, NamesExist}
use Rattle.plum_core.proofs.Backlogs.{IsBacklog-taken, IsBacklog-sent, IsValidHistory-sent}
use Rattle.plum_core.proofs.Joining.{KeyLaws, HoldsKept-nil, IsValidHistory-nil}
use Rattle.plum_core.proofs.Lanes.{entries_of_lane-push, entries_of_lane-push_other}
use Rattle.plum_core.proofs.Changed.{at_each}

-- at the start
pub KeepsFacts-start : (setup : Setup) (stations : ℕ) → KeepsFacts setup stations start
KeepsFacts-start setup stations = record {
  lanes_in_order = λ lane below. refl;
  history_valid = IsValidHistory-nil setup stations;
  queue_bounded = omega arith;
  backlog = λ lane below. record { kept = HoldsKept-nil; next = tt };
  published_gathered = (omega arith, omega arith);
  seen_published = λ area. omega arith;
}

module _ (setup : Setup) (stations : ℕ) (s : State) (facts : KeepsFacts setup stations s) where
  -- each lane keeps its order
  Ordered : ℕ → Lane → Type 0
  Ordered n lane = n < setup.lanes → IsInLaneOrder n lane.sent (s.gathered ++ s.queue)

  -- and its backlog
  Backlogged : ℕ → Lane → Type 0
  Backlogged n lane = n < setup.lanes
      → IsBacklog setup stations n lane.taken lane.waiting lane.sent

  module _ (laws : KeyLaws) (value_is : ValueIs) (table : IsLevelTable setup.levels)
      (p : Packet) (listed : p.station.0 < stations) where
    -- the packet's lane
    abbrev n : ℕ
    n = lane_of setup.lanes p.station.0

    -- A lane that takes a packet sends nothing,
    Ordered-takes : (lane : Lane) (waiting : Option Entry) → lane.waiting ≡ waiting
        → Ordered n lane → Ordered n (lane_takes setup p lane waiting)
    unfolding Ordered
    Ordered-takes lane (Some e) is order = order
    Ordered-takes lane None is order = order

    -- and keeps its backlog.
    Backlogged-takes : (lane : Lane) (waiting : Option Entry) → lane.waiting ≡ waiting
        → Backlogged n lane → Backlogged n (lane_takes setup p lane waiting)
    unfolding Backlogged
    Backlogged-takes lane (Some e) is backlog = backlog
    Backlogged-takes lane None is backlog = λ below.
        let none : IsBacklog setup stations n lane.taken None lane.sent =
        subst (λ w. IsBacklog setup stations n lane.taken w lane.sent) is (backlog below) in
        IsBacklog-taken laws value_is setup table stations lane.taken p lane.sent listed none

    -- a packet comes
    KeepsFacts-take : KeepsFacts setup stations (step setup s (Take p))
    unfolding Ordered Backlogged
    KeepsFacts-take =
        let lane : Lane = s.lanes n in
        let after : Lane = lane_takes setup p lane lane.waiting in
        record {
          lanes_in_order =
              at_each Ordered n after s.lanes
              (Ordered-takes lane lane.waiting refl (facts.lanes_in_order n))
              (λ m other. facts.lanes_in_order m);
          history_valid = facts.history_valid;
          queue_bounded = facts.queue_bounded;
          backlog =
              at_each Backlogged n after s.lanes
              (Backlogged-takes lane lane.waiting refl (facts.backlog n))
              (λ m other. facts.backlog m);
          published_gathered = facts.published_gathered;
          seen_published = facts.seen_published;
        }

  module _ (n : ℕ) (below : n < setup.lanes) where
    -- the state once the lane's entry is sent
    abbrev sent : Entry → State
    sent e = record s {
      lanes = changed n (lane_sends e (s.lanes n)) s.lanes;
      queue = s.queue ++ e ∷ [];
    }

    -- an entry of this lane is of no other
    other_lane : (e : Entry) (m : ℕ) → (m == n) ≡ false → e.lane.0 ≡ n → (e.lane.0 == m) ≡ false
    other_lane e m other is = grind (arith, nat_tests)

    module _ (e : Entry) (waits : (s.lanes n).waiting ≡ Some e) where
      -- the lane before
      abbrev lane : Lane
      lane = s.lanes n

      -- all that was sent before
      abbrev all : List Entry
      all = s.gathered ++ s.queue

      -- the backlog before
      waiting : IsBacklog setup stations n lane.taken (Some e) lane.sent
      waiting =
          subst (λ w. IsBacklog setup stations n lane.taken w lane.sent) waits
          (facts.backlog n below)

      -- all that is sent
      joined : all ++ e ∷ [] ≡ s.gathered ++ (s.queue ++ e ∷ [])
      joined = append_assoc s.gathered s.queue (e ∷ [])

      -- each lane keeps its order
      order_sent : (m : ℕ) → m < setup.lanes
          → IsInLaneOrder m (changed n (lane_sends e lane) s.lanes m).sent
          (s.gathered ++ (s.queue ++ e ∷ []))
      order_sent =
          let Q : ℕ → Lane → Type 0 = λ m l. m < setup.lanes
          → IsInLaneOrder m l.sent (s.gathered ++ (s.queue ++ e ∷ [])) in
          at_each Q n (lane_sends e lane) s.lanes
          (λ _. ap (λ sent. sent ++ e ∷ []) (facts.lanes_in_order n below)
          ∙ sym (entries_of_lane-push n all e waiting.next.0) ∙ ap (entries_of_lane n) joined)
          (λ m other below_m.
          let not_m : (e.lane.0 == m) ≡ false = other_lane e m other waiting.next.0 in
          facts.lanes_in_order m below_m ∙ sym (entries_of_lane-push_other m all e not_m)
          ∙ ap (entries_of_lane m) joined)

      -- the entry is sent
      KeepsFacts-sent : (length s.queue == setup.queue) ≡ false → KeepsFacts setup stations (sent e)
      unfolding Backlogged
      KeepsFacts-sent room =
          let valid = IsValidHistory-sent setup stations n lane.taken e lane.sent waiting all
          facts.history_valid (facts.lanes_in_order n below) in
          record {
            lanes_in_order = order_sent;
            history_valid = subst (IsValidHistory setup stations) joined valid;
            queue_bounded =
                let bound : length s.queue ≤ setup.queue = facts.queue_bounded in
                let one : length (s.queue ++ e ∷ []) ≡ length s.queue + 1 =
                length-append s.queue (e ∷ []) in
                grind (arith, nat_tests);
            backlog =
                at_each Backlogged n (lane_sends e lane) s.lanes
                (λ _. IsBacklog-sent setup stations n lane.taken e lane.sent waiting)
                (λ m other. facts.backlog m);
            published_gathered = facts.published_gathered;
            seen_published = facts.seen_published;
          }

    -- a lane offers its entry
    KeepsFacts-offer : (waiting : Option Entry) → (s.lanes n).waiting ≡ waiting
        → KeepsFacts setup stations (lane_offers setup s n waiting)
    KeepsFacts-offer None is = facts
    KeepsFacts-offer (Some e) is =
        let Keeps : Bool → Type 0 = λ b. KeepsFacts setup stations (if b then s else sent e) in
        elim (cases_Bool (length s.queue == setup.queue)) [
          | inl full ↦ subst Keeps (sym full) facts
          | inr room ↦ subst Keeps (sym room) (KeepsFacts-sent e is room)
        ]

  -- an entry is gathered
  KeepsFacts-pop : (queue : List Entry) → s.queue ≡ queue
      → KeepsFacts setup stations (gather s queue)
  KeepsFacts-pop [] is = facts
  KeepsFacts-pop (e ∷ es) is =
      let moved : s.gathered ++ s.queue ≡ (s.gathered ++ e ∷ []) ++ es =
      ap (λ q. s.gathered ++ q) is ∙ sym (append_assoc s.gathered (e ∷ []) es) in
      let bound : length s.queue ≤ setup.queue = facts.queue_bounded in
      let within : s.appended ≤ length s.gathered = facts.published_gathered.1 in
      record {
        lanes_in_order = λ lane below.
            facts.lanes_in_order lane below ∙ ap (entries_of_lane lane) moved;
        history_valid = subst (IsValidHistory setup stations) moved facts.history_valid;
        queue_bounded = omega (arith, ap length is);
        backlog = facts.backlog;
        published_gathered =
            (facts.published_gathered.0, omega (arith, length-append s.gathered (e ∷ [])));
        seen_published = facts.seen_published;
      }

  -- a gathered entry is appended
  KeepsFacts-append : KeepsFacts setup stations (step setup s Append)
  KeepsFacts-append =
      let more : State = record s { appended = s.appended + 1 } in
      let within : s.appended ≤ length s.gathered = facts.published_gathered.1 in
      let published : s.published ≤ s.appended = facts.published_gathered.0 in
      let Keeps : Bool → Type 0 = λ b. KeepsFacts setup stations (if b then s else more) in
      elim (cases_Bool (s.appended == length s.gathered)) [
        | inl all ↦ subst Keeps (sym all) facts
        | inr left ↦ subst Keeps (sym left) (record {
          lanes_in_order = facts.lanes_in_order;
          history_valid = facts.history_valid;
          queue_bounded = facts.queue_bounded;
          backlog = facts.backlog;
          published_gathered = (omega arith, grind (arith, nat_tests));
          seen_published = facts.seen_published;
        })
      ]

  -- what is appended is published
  KeepsFacts-publish : KeepsFacts setup stations (step setup s Publish)
  KeepsFacts-publish = record {
    lanes_in_order = facts.lanes_in_order;
    history_valid = facts.history_valid;
    queue_bounded = facts.queue_bounded;
    backlog = facts.backlog;
    published_gathered = (omega arith, facts.published_gathered.1);
    seen_published = λ area.
        let seen : s.seen area ≤ s.published = facts.seen_published area in
        let published : s.published ≤ s.appended = facts.published_gathered.0 in
        omega arith;
  }

  -- what a session has seen becomes another number, within what is published
  KeepsFacts-seen : (area seen : ℕ) → seen ≤ s.published
      → KeepsFacts setup stations (record s { seen = changed area seen s.seen })
  KeepsFacts-seen area seen within = record {
    lanes_in_order = facts.lanes_in_order;
    history_valid = facts.history_valid;
    queue_bounded = facts.queue_bounded;
    backlog = facts.backlog;
    published_gathered = facts.published_gathered;
    seen_published =
        at_each (λ _ n. n ≤ s.published) area seen s.seen within
        (λ m other. facts.seen_published m);
  }

  -- a session is told of n entries
  KeepsFacts-learn : (area n : ℕ)
      → let told = record s { seen = changed area (max n (s.seen area)) s.seen } in
      KeepsFacts setup stations (if nat_le n s.published then told else s)
  KeepsFacts-learn area n =
      let told : State = record s { seen = changed area (max n (s.seen area)) s.seen } in
      let seen : s.seen area ≤ s.published = facts.seen_published area in
      let Keeps : Bool → Type 0 = λ b. KeepsFacts setup stations (if b then told else s) in
      elim (cases_Bool (nat_le n s.published)) [
        | inl is ↦
            let within : max n (s.seen area) ≤ s.published = grind (arith, nat_tests) in
            subst Keeps (sym is) (KeepsFacts-seen area (max n (s.seen area)) within)
        | inr is ↦ subst Keeps (sym is) facts
      ]

module _ (laws : KeyLaws) (value_is : ValueIs) (setup : Setup) (sites : SitesView)
    (table : IsLevelTable setup.levels) where
  -- the facts, where there are the stations of the sites
  abbrev Keeps : State → Type 0
  Keeps = KeepsFacts setup (length sites.stations)

  -- after each step
  pub KeepsFacts-step : (s : State) (event : Event) → NamesExist setup sites event → Keeps s
      → Keeps (step setup s event)
  KeepsFacts-step s (Take p) exists facts =
      KeepsFacts-take setup (length sites.stations) s facts laws value_is table p exists
  KeepsFacts-step s (Offer lane) exists facts =
      let waiting = (s.lanes lane.0).waiting in
      KeepsFacts-offer setup (length sites.stations) s facts lane.0 exists waiting refl
  KeepsFacts-step s Pop exists facts =
      KeepsFacts-pop setup (length sites.stations) s facts s.queue refl
  KeepsFacts-step s Append exists facts = KeepsFacts-append setup (length sites.stations) s facts
  KeepsFacts-step s Publish exists facts = KeepsFacts-publish setup (length sites.stations) s facts
  KeepsFacts-step s (Read area) exists facts =
      KeepsFacts-seen setup (length sites.stations) s facts area.0 s.published (omega arith)
  KeepsFacts-step s (Learn area n) exists facts =
      KeepsFacts-learn setup (length sites.stations) s facts area.0 n

  -- after all events
  pub KeepsFacts-after : (s : State) (events : List Event) → All (NamesExist setup sites) events
      → Keeps s → Keeps (state_after setup s events)
  KeepsFacts-after s [] exist facts = facts
  KeepsFacts-after s (event ∷ events) exist facts =
      let first = All-head (NamesExist setup sites) event events exist in
      let others = All-tail (NamesExist setup sites) event events exist in
      KeepsFacts-after (step setup s event) events others (KeepsFacts-step s event first facts)
