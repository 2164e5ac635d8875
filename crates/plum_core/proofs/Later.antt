-- Whatever events come, what is gathered grows at its end, and what is published never falls.
use Rattle.std.proofs.Common.{◌≡◌, ℕ, zero, suc, ◌+◌, ◌≤◌, Bool, List, [], ◌∷◌, ◌++◌, length, take}
use Rattle.std.proofs.Common.{Option, Some, None, inl, inr, refl, sym, ◌∙◌, ap, subst, arith}
use Rattle.std.proofs.Common.{append-nil, append_assoc, length-append}
use Rattle.std.proofs.lemmas.Bool.{cases_Bool}
use Rattle.std.proofs.lemmas.Bool.Decides.{nat_tests}
use Rattle.std.proofs.lemmas.List.{take-append-le}
use Rattle.std.proofs.lemmas.Option.{none-some, same_Some}
use Rattle.std.specs.Prelude.{if◌then◌else◌, ◌==◌, nat_le, max, slice_get, IsSomeAnd}
use Rattle.plum_base.specs.declared.answers.Reading.{Reading}
use Rattle.plum_base.specs.declared.entry.Entry.{Entry}
use Rattle.plum_base.specs.declared.numbers.AreaNo.{AreaNo}
use Rattle.plum_base.specs.declared.setup.Setup.{Setup}
use Rattle.plum_base.specs.Sites.{SitesView, areas_of}
use Rattle.plum_core.specs.declared.event.Event.{Event}
use Rattle.plum_core.specs.declared.event.Event.TheVariants.{Take, Offer, Pop, Append, Publish}
use Rattle.plum_core.specs.declared.event.Event.TheVariants.{Read, Learn}
use Rattle.plum_core.specs.declared.event.Reply.{Reply}
use Rattle.plum_core.specs.declared.event.Reply.TheVariants as replies
use Rattle.plum_core.specs.Laws.{Replied}
use Rattle.plum_core.specs.Machine.{State, start, changed, lane_sends, lane_offers, gather, step}
use Rattle.plum_core.specs.Machine.{state_after, IsReply, IsReadReply, AreReplies, IsReadAt}
use Rattle.plum_core.specs.Transcript.{ArePredictions}
use Rattle.plum_base.specs.Sites.{targets_of}
use Rattle.plum_core.proofs.Changed.{at_each}

-- No more is published than is appended, no more is appended than is gathered, and no session has
-- seen more than is published.
pub record IsBounded (s : State) : Type 0 where
  pub published : s.published ≤ s.appended
  pub appended : s.appended ≤ length s.gathered
  pub seen : (area : ℕ) → s.seen area ≤ s.published

-- the state t comes after the state s
pub record IsLater (s t : State) : Type 0 where
  pub bounded : IsBounded t
  pub more : List Entry
  pub gathered : t.gathered ≡ s.gathered ++ more
  pub published : s.published ≤ t.published

-- nothing is published at the start
IsBounded-start : IsBounded start
IsBounded-start = record {
  published = omega arith;
  appended = omega arith;
  seen = λ area. omega arith;
}

-- a state comes after itself
IsLater-same : (s : State) → IsBounded s → IsLater s s
IsLater-same s bounded = record {
  bounded = bounded;
  more = [];
  gathered = sym (append-nil s.gathered);
  published = omega arith;
}

-- one after another after a third
IsLater-after : (s t u : State) → IsLater s t → IsLater t u → IsLater s u
IsLater-after s t u first second = record {
  bounded = second.bounded;
  more = first.more ++ second.more;
  gathered =
      second.gathered ∙ ap (λ g. g ++ second.more) first.gathered
      ∙ append_assoc s.gathered first.more second.more;
  published =
      let a : s.published ≤ t.published = first.published in
      let b : t.published ≤ u.published = second.published in
      omega arith;
}

module _ (s : State) (bounded : IsBounded s) where
  -- an offer gathers, appends, publishes and shows nothing
  IsLater-offer : (setup : Setup) (lane : ℕ) (waiting : Option Entry)
      → IsLater s (lane_offers setup s lane waiting)
  IsLater-offer setup lane None = IsLater-same s bounded
  IsLater-offer setup lane (Some e) =
      let sent : State = record s {
        lanes = changed lane (lane_sends e (s.lanes lane)) s.lanes;
        queue = s.queue ++ e ∷ [];
      } in
      let later : IsLater s sent = record {
        bounded = record {
          published = bounded.published;
          appended = bounded.appended;
          seen = bounded.seen;
        };
        more = [];
        gathered = sym (append-nil s.gathered);
        published = omega arith;
      } in
      let Later : Bool → Type 0 = λ b. IsLater s (if b then s else sent) in
      elim (cases_Bool (length s.queue == setup.queue)) [
        | inl full ↦ subst Later (sym full) (IsLater-same s bounded)
        | inr room ↦ subst Later (sym room) later
      ]

  -- an entry is gathered
  IsLater-pop : (queue : List Entry) → IsLater s (gather s queue)
  IsLater-pop [] = IsLater-same s bounded
  IsLater-pop (e ∷ es) =
      let within : s.appended ≤ length s.gathered = bounded.appended in
      record {
        bounded = record {
          published = bounded.published;
          appended = omega (arith, length-append s.gathered (e ∷ []));
          seen = bounded.seen;
        };
        more = e ∷ [];
        gathered = refl;
        published = omega arith;
      }

  -- a gathered entry is appended
  IsLater-append : (setup : Setup) → IsLater s (step setup s Append)
  IsLater-append setup =
      let more : State = record s { appended = s.appended + 1 } in
      let within : s.appended ≤ length s.gathered = bounded.appended in
      let published : s.published ≤ s.appended = bounded.published in
      let Later : Bool → Type 0 = λ b. IsLater s (if b then s else more) in
      elim (cases_Bool (s.appended == length s.gathered)) [
        | inl all ↦ subst Later (sym all) (IsLater-same s bounded)
        | inr left ↦ subst Later (sym left) (record {
          bounded = record {
            published = omega arith;
            appended = grind (arith, nat_tests);
            seen = bounded.seen;
          };
          more = [];
          gathered = sym (append-nil s.gathered);
          published = omega arith;
        })
      ]

  -- what is appended is published
  IsLater-publish : (setup : Setup) → IsLater s (step setup s Publish)
  IsLater-publish setup =
      let published : s.published ≤ s.appended = bounded.published in
      record {
        bounded = record {
          published = omega arith;
          appended = bounded.appended;
          seen = λ area. let seen : s.seen area ≤ s.published = bounded.seen area in omega arith;
        };
        more = [];
        gathered = sym (append-nil s.gathered);
        published = published;
      }

  -- what a session has seen becomes another number, within what is published
  IsLater-seen : (area seen : ℕ) → seen ≤ s.published
      → IsLater s (record s { seen = changed area seen s.seen })
  IsLater-seen area seen within = record {
    bounded = record {
      published = bounded.published;
      appended = bounded.appended;
      seen =
          at_each (λ _ n. n ≤ s.published) area seen s.seen within (λ m other. bounded.seen m);
    };
    more = [];
    gathered = sym (append-nil s.gathered);
    published = omega arith;
  }

  -- a session is told of n entries
  IsLater-learn : (area n : ℕ)
      → let told = record s { seen = changed area (max n (s.seen area)) s.seen } in
      IsLater s (if nat_le n s.published then told else s)
  IsLater-learn area n =
      let told : State = record s { seen = changed area (max n (s.seen area)) s.seen } in
      let seen : s.seen area ≤ s.published = bounded.seen area in
      let Later : Bool → Type 0 = λ b. IsLater s (if b then told else s) in
      elim (cases_Bool (nat_le n s.published)) [
        | inl is ↦
            let within : max n (s.seen area) ≤ s.published = grind (arith, nat_tests) in
            subst Later (sym is) (IsLater-seen area (max n (s.seen area)) within)
        | inr is ↦ subst Later (sym is) (IsLater-same s bounded)
      ]

module _ (setup : Setup) where
  -- what events leave
  abbrev after : State → List Event → State
  after = state_after setup

  -- what an event leaves comes later
  IsLater-step : (s : State) (event : Event) → IsBounded s → IsLater s (step setup s event)
  IsLater-step s (Take p) bounded = record {
    bounded = record {
      published = bounded.published;
      appended = bounded.appended;
      seen = bounded.seen;
    };
    more = [];
    gathered = sym (append-nil s.gathered);
    published = omega arith;
  }
  IsLater-step s (Offer lane) bounded =
      IsLater-offer s bounded setup lane.0 (s.lanes lane.0).waiting
  IsLater-step s Pop bounded = IsLater-pop s bounded s.queue
  IsLater-step s Append bounded = IsLater-append s bounded setup
  IsLater-step s Publish bounded = IsLater-publish s bounded setup
  IsLater-step s (Read area) bounded = IsLater-seen s bounded area.0 s.published (omega arith)
  IsLater-step s (Learn area n) bounded = IsLater-learn s bounded area.0 n

  -- so does what events leave
  IsLater-events : (s : State) (events : List Event) → IsBounded s → IsLater s (after s events)
  IsLater-events s [] bounded = IsLater-same s bounded
  IsLater-events s (event ∷ events) bounded =
      let next : State = step setup s event in
      let here : IsLater s next = IsLater-step s event bounded in
      IsLater-after s next (after next events) here (IsLater-events next events here.bounded)

  -- more events lead to a later state
  IsLater-take : (s : State) (events : List Event) (i j : ℕ) → IsBounded s → i ≤ j
      → IsLater (after s (take i events)) (after s (take j events))
  IsLater-take s events zero j bounded below = IsLater-events s (take j events) bounded
  IsLater-take s events (suc i) zero bounded below = absurd (omega arith)
  IsLater-take s [] (suc i) (suc j) bounded below = IsLater-same s bounded
  IsLater-take s (event ∷ events) (suc i) (suc j) bounded below =
      let here = IsLater-step s event bounded in
      IsLater-take (step setup s event) events i j here.bounded (omega arith)

  -- all events lead to a state later than each before
  IsLater-end : (s : State) (events : List Event) (i : ℕ) → IsBounded s
      → IsLater (after s (take i events)) (after s events)
  IsLater-end s events zero bounded = IsLater-events s events bounded
  IsLater-end s [] (suc i) bounded = IsLater-same s bounded
  IsLater-end s (event ∷ events) (suc i) bounded =
      IsLater-end (step setup s event) events i (IsLater-step s event bounded).bounded

  module _ (sites : SitesView) where
    -- a reading is the reply to a read at the state before it
    IsReadReply-at : (s : State) (events : List Event) (all : List Reply) (i : ℕ) (area : AreaNo)
        (reading : Reading) → AreReplies setup sites s events all
        → IsReadAt events all i area reading
        → IsReadReply sites (after s (take i events)) area.0 (replies.Read reading)
    IsReadReply-at s [] all i area reading are at = absurd (none-some (Read area) at.event)
    IsReadReply-at s (event ∷ events) [] i area reading are at = absurd are
    IsReadReply-at s (event ∷ events) (reply ∷ more) zero area reading are at =
        let is_event : event ≡ Read area = same_Some event (Read area) at.event in
        let is_reply : reply ≡ replies.Read reading =
        same_Some reply (replies.Read reading) at.reply in
        subst (λ r. IsReadReply sites s area.0 r) is_reply
        (subst (λ e. IsReply setup sites s e reply) is_event are.0)
    IsReadReply-at s (event ∷ events) (reply ∷ more) (suc i) area reading are at =
        let next : IsReadAt events more i area reading = record {
          event = at.event;
          reply = at.reply;
        } in
        IsReadReply-at (step setup s event) events more i area reading are.1 next

    module _ (events : List Event) (all : List Reply) (i : ℕ) (area : AreaNo) (reading : Reading)
        (replied : Replied setup sites events all i area reading) where
      -- the state before the read
      abbrev before : State
      before = after start (take i events)

      -- and that in the end
      abbrev end : State
      end = after start events

      -- the reading is the reply there
      is_read : IsReadReply sites before area.0 (replies.Read reading)
      is_read = IsReadReply-at start events all i area reading replied.are_replies replied.read

      -- the bounds hold there
      bounded : IsBounded before
      bounded = (IsLater-events start (take i events) IsBounded-start).bounded

      -- what is published is gathered
      published_gathered : before.published ≤ length before.gathered
      published_gathered =
          let published : before.published ≤ before.appended = bounded.published in
          let appended : before.appended ≤ length before.gathered = bounded.appended in
          omega arith

      -- the end comes later
      later : IsLater before end
      later = IsLater-end start events i IsBounded-start

      -- The front is what is published then;
      pub front_published : reading.front ≡ before.published
      front_published = is_read.0

      -- it is gathered in the end;
      pub front_gathered : reading.front ≤ length end.gathered
      front_gathered =
          let front : reading.front ≡ before.published = front_published in
          let within : before.published ≤ length before.gathered = published_gathered in
          omega (arith, ap length later.gathered, length-append before.gathered later.more)

      -- the predictions are those over it;
      pub answers_predicted : IsSomeAnd (slice_get (areas_of sites.targets) area.0) (λ name.
          ArePredictions sites.stations (take reading.front end.gathered)
          (targets_of name sites.targets) reading.answers)
      answers_predicted =
          let within : before.published ≤ length before.gathered = published_gathered in
          let same : take reading.front end.gathered ≡ take before.published before.gathered =
          ap (λ n. take n end.gathered) front_published ∙ ap (take before.published) later.gathered
          ∙ take-append-le before.published before.gathered later.more within in
          let Predicted : List Entry → Type 0 = λ history.
          IsSomeAnd (slice_get (areas_of sites.targets) area.0) (λ name.
          ArePredictions sites.stations history (targets_of name sites.targets) reading.answers) in
          subst Predicted (sym same) is_read.1

      -- it holds all that the session has seen.
      pub front_seen : before.seen area.0 ≤ reading.front
      front_seen =
          let front : reading.front ≡ before.published = front_published in
          let seen : before.seen area.0 ≤ before.published = bounded.seen area.0 in
          omega arith

    -- The fronts of two reads, one after another, do not fall.
    pub fronts_rise : (events : List Event) (all : List Reply) (i j : ℕ) (area : AreaNo)
        (earlier later : Reading) → i ≤ j → Replied setup sites events all i area earlier
        → Replied setup sites events all j area later → earlier.front ≤ later.front
    fronts_rise events all i j area earlier later below first second =
        let s : State = after start (take i events) in
        let t : State = after start (take j events) in
        let a : earlier.front ≡ s.published = front_published events all i area earlier first in
        let b : later.front ≡ t.published = front_published events all j area later second in
        let rise : s.published ≤ t.published =
        (IsLater-take start events i j IsBounded-start below).published in
        omega arith
