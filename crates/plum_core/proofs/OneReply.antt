-- The machine replies to each event in one way.
use Rattle.std.proofs.Common.{◌≡◌, ◌≢◌, ℕ, suc, ◌<◌, ◌≤◌, List, [], ◌∷◌, length, take, Option, Some}
use Rattle.std.proofs.Common.{None, refl, sym, ◌∙◌, ap, subst, arith}
use Rattle.std.proofs.lemmas.Bool.{false≢true}
use Rattle.std.proofs.lemmas.Int.{ints}
use Rattle.std.proofs.lemmas.Option.{none-some}
use Rattle.std.specs.Prelude.{slice_get, max, IsSome, IsSomeAnd, ℤ, ◌≤ℤ◌}
use Rattle.plum_base.specs.declared.answers.Reading.{Reading}
use Rattle.plum_base.specs.declared.entry.Entry.{Entry}
use Rattle.plum_base.specs.declared.lane.Took.TheVariants as tooks
use Rattle.plum_base.specs.declared.lane.Offered.TheVariants as offers
use Rattle.plum_base.specs.declared.numbers.Key.{Key}
use Rattle.plum_base.specs.declared.numbers.Point.{Point}
use Rattle.plum_base.specs.declared.numbers.Tenths.{Tenths}
use Rattle.plum_base.specs.declared.packet.Packet.{Packet}
use Rattle.plum_base.specs.declared.setup.Setup.{Setup}
use Rattle.plum_base.specs.declared.sites.StationSite.{StationSite}
use Rattle.plum_base.specs.declared.sites.TargetSite.{TargetSite}
use Rattle.plum_base.specs.Lane.{lane_of}
use Rattle.plum_base.specs.Sites.{SitesView, areas_of}
use Rattle.plum_seq.specs.Keys.{keys_of}
use Rattle.plum_seq.specs.Laws.{OneGreatest}
use Rattle.plum_geo.specs.Prediction.{shown, plus_factor, IsBest, IsPrediction}
use Rattle.plum_core.specs.declared.event.Event.{Event}
use Rattle.plum_core.specs.declared.event.Event.TheVariants.{Take, Offer, Pop, Append, Publish}
use Rattle.plum_core.specs.declared.event.Event.TheVariants.{Read, Learn}
use Rattle.plum_core.specs.declared.event.Reply.{Reply}
use Rattle.plum_core.specs.declared.event.Reply.TheVariants as replies
use Rattle.plum_core.specs.Machine.{Lane, State, step, IsTakeReply, IsOfferReply, IsPopReply}
use Rattle.plum_core.specs.Machine.{IsAppendReply, IsReadReply, IsLearnReply, IsReply, AreReplies}
use Rattle.plum_core.specs.Transcript.{ArePredictions}
use Rattle.plum_base.specs.Sites.{targets_of}

-- numbers, each at most the other
both_ways : (a b : ℤ) → a ≤ℤ b → b ≤ℤ a → b ≡ a
both_ways a b up down = omega (arith, ints)

module _ (stations : List StationSite) (values : ℕ → Option Tenths) (place : Point) where
  -- what one of those that report says is at most what none of them exceeds
  at_most : (a b : Tenths) → IsBest stations values place (Some a)
      → IsBest stations values place (Some b) → a.0 ≤ℤ b.0
  at_most a b first second =
      let said = first.0 in
      subst (λ z. z ≤ℤ b.0) (sym said.3) (second.1 said.0 said.1 said.2)

  -- There is one best at a place.
  one_best : (a b : Option Tenths) → IsBest stations values place a → IsBest stations values place b
      → b ≡ a
  one_best None None first second = refl
  one_best None (Some b) first second = let said = second.0 in absurd (first said.0 said.1 said.2)
  one_best (Some a) None first second = let said = first.0 in absurd (second said.0 said.1 said.2)
  one_best (Some a) (Some b) first second =
      let some : ℤ → Option Tenths = λ z. Some (record { 0 = z }) in
      ap some (both_ways a.0 b.0 (at_most a b first second) (at_most b a second first))

module _ (stations : List StationSite) (history : List Entry) where
  -- what the stations show
  abbrev values : ℕ → Option Tenths
  values = shown (length stations) history

  -- So there is one prediction,
  one_prediction : (target : TargetSite) (a b : Option Tenths)
      → IsPrediction stations values target a → IsPrediction stations values target b → b ≡ a
  one_prediction target a b first second =
      let best : second.0 ≡ first.0 =
      one_best stations values target.at first.0 second.0 first.1 second.1 in
      second.2 ∙ ap (plus_factor target) best ∙ sym first.2

  -- and one list of them.
  one_list : (targets : List TargetSite) (a b : List (Option Tenths))
      → ArePredictions stations history targets a → ArePredictions stations history targets b
      → b ≡ a
  one_list [] [] [] first second = refl
  one_list [] [] (y ∷ b) first second = absurd second
  one_list [] (x ∷ a) b first second = absurd first
  one_list (t ∷ targets) [] b first second = absurd first
  one_list (t ∷ targets) (x ∷ a) [] first second = absurd second
  one_list (t ∷ targets) (x ∷ a) (y ∷ b) first second =
      ap (λ z. z ∷ b) (one_prediction t x y first.0 second.0)
      ∙ ap (λ zs. x ∷ zs) (one_list targets a b first.1 second.1)

-- what is there is not none
some_none : {X : Type 0} (o : Option X) → IsSome o → o ≡ None → ⊥
some_none o some none = false≢true (subst IsSome none some)

module _ (one : OneGreatest) (lane : Lane) (p : Packet) where
  -- the reply to a packet where an entry waits
  take_held : IsSome lane.waiting → (reply : Reply) → IsTakeReply lane p reply
      → reply ≡ replies.Held
  take_held waits replies.Held is = refl
  take_held waits (replies.Took (tooks.Repeat last)) is = absurd (some_none lane.waiting waits is.0)
  take_held waits (replies.Took tooks.Ready) is = absurd (some_none lane.waiting waits is.0)
  take_held waits _ is = absurd is

  -- to a repeat
  take_repeat : (last : Key) → IsTakeReply lane p (replies.Took (tooks.Repeat last))
      → (reply : Reply) → IsTakeReply lane p reply → reply ≡ replies.Took (tooks.Repeat last)
  take_repeat last first replies.Held is = absurd (some_none lane.waiting is first.0)
  take_repeat last first (replies.Took (tooks.Repeat other)) is =
      let same : other ≡ last = one (keys_of p.station.0 lane.taken) other last is.1.1 first.1.1 in
      ap (λ k. replies.Took (tooks.Repeat k)) same
  take_repeat last first (replies.Took tooks.Ready) is = absurd (false≢true (sym first.1.0 ∙ is.1))
  take_repeat last first _ is = absurd is

  -- to a packet that is kept
  take_ready : IsTakeReply lane p (replies.Took tooks.Ready) → (reply : Reply)
      → IsTakeReply lane p reply → reply ≡ replies.Took tooks.Ready
  take_ready first replies.Held is = absurd (some_none lane.waiting is first.0)
  take_ready first (replies.Took (tooks.Repeat other)) is =
      absurd (false≢true (sym is.1.0 ∙ first.1))
  take_ready first (replies.Took tooks.Ready) is = refl
  take_ready first _ is = absurd is

  -- two replies to a packet
  one_take : (a b : Reply) → IsTakeReply lane p a → IsTakeReply lane p b → b ≡ a
  one_take replies.Held b first second = take_held first b second
  one_take (replies.Took (tooks.Repeat last)) b first second = take_repeat last first b second
  one_take (replies.Took tooks.Ready) b first second = take_ready first b second
  one_take _ b first second = absurd first

module _ (setup : Setup) (s : State) (lane : Lane) where
  -- the reply to an offer where nothing waits
  offer_idle : lane.waiting ≡ None → (reply : Reply) → IsOfferReply setup s lane reply
      → reply ≡ replies.Idle
  offer_idle none replies.Idle is = refl
  offer_idle none (replies.Offered offers.Busy) is = absurd (some_none lane.waiting is.0 none)
  offer_idle none (replies.Offered offers.Sent) is = absurd (some_none lane.waiting is.0 none)
  offer_idle none _ is = absurd is

  -- where the queue is full
  offer_busy : IsOfferReply setup s lane (replies.Offered offers.Busy) → (reply : Reply)
      → IsOfferReply setup s lane reply → reply ≡ replies.Offered offers.Busy
  offer_busy first replies.Idle is = absurd (some_none lane.waiting first.0 is)
  offer_busy first (replies.Offered offers.Busy) is = refl
  offer_busy first (replies.Offered offers.Sent) is = absurd (is.1 first.1)
  offer_busy first _ is = absurd is

  -- where it is not
  offer_sent : IsOfferReply setup s lane (replies.Offered offers.Sent) → (reply : Reply)
      → IsOfferReply setup s lane reply → reply ≡ replies.Offered offers.Sent
  offer_sent first replies.Idle is = absurd (some_none lane.waiting first.0 is)
  offer_sent first (replies.Offered offers.Busy) is = absurd (first.1 is.1)
  offer_sent first (replies.Offered offers.Sent) is = refl
  offer_sent first _ is = absurd is

  -- two replies to an offer
  one_offer : (a b : Reply) → IsOfferReply setup s lane a → IsOfferReply setup s lane b → b ≡ a
  one_offer replies.Idle b first second = offer_idle first b second
  one_offer (replies.Offered offers.Busy) b first second = offer_busy first b second
  one_offer (replies.Offered offers.Sent) b first second = offer_sent first b second
  one_offer _ b first second = absurd first

-- the reply to a pop of an empty queue
pop_empty : (b : Reply) → IsPopReply [] b → b ≡ replies.Empty
pop_empty replies.Empty is = refl
pop_empty (replies.Popped key) is = absurd is
pop_empty _ is = absurd is

-- the reply to a pop of another
pop_key : (e : Entry) (es : List Entry) (b : Reply) → IsPopReply (e ∷ es) b
    → b ≡ replies.Popped e.key
pop_key e es replies.Empty is = absurd (none-some e (ap (λ queue. slice_get queue 0) (sym is)))
pop_key e es (replies.Popped key) is = ap (λ k. replies.Popped k) (sym is)
pop_key e es _ is = absurd is

-- two replies to a pop
one_pop : (queue : List Entry) (a b : Reply) → IsPopReply queue a → IsPopReply queue b → b ≡ a
one_pop [] a b first second = pop_empty b second ∙ sym (pop_empty a first)
one_pop (e ∷ es) a b first second = pop_key e es b second ∙ sym (pop_key e es a first)

module _ (s : State) where
  -- the reply to an append where all is appended
  append_nothing : s.appended ≡ length s.gathered → (reply : Reply) → IsAppendReply s reply
      → reply ≡ replies.Nothing
  append_nothing all replies.Nothing is = refl
  append_nothing all replies.Appended is = absurd (is all)
  append_nothing all _ is = absurd is

  -- where some is left
  append_appended : s.appended ≢ length s.gathered → (reply : Reply) → IsAppendReply s reply
      → reply ≡ replies.Appended
  append_appended left replies.Nothing is = absurd (left is)
  append_appended left replies.Appended is = refl
  append_appended left _ is = absurd is

  -- two replies to an append
  one_append : (a b : Reply) → IsAppendReply s a → IsAppendReply s b → b ≡ a
  one_append replies.Nothing b first second = append_nothing first b second
  one_append replies.Appended b first second = append_appended first b second
  one_append _ b first second = absurd first

  module _ (area n : ℕ) where
    -- the reply to a session that is told of more than is published
    learn_nothing : s.published < n → (reply : Reply) → IsLearnReply s area n reply
        → reply ≡ replies.Nothing
    learn_nothing past replies.Nothing is = refl
    learn_nothing past (replies.Learned seen) is = absurd (omega arith)
    learn_nothing past _ is = absurd is

    -- of no more
    learn_learned : n ≤ s.published → (reply : Reply) → IsLearnReply s area n reply
        → reply ≡ replies.Learned (max n (s.seen area))
    learn_learned within replies.Nothing is = absurd (omega arith)
    learn_learned within (replies.Learned seen) is = ap (λ k. replies.Learned k) is.1
    learn_learned within _ is = absurd is

    -- two replies to what a session is told
    one_learn : (a b : Reply) → IsLearnReply s area n a → IsLearnReply s area n b → b ≡ a
    one_learn replies.Nothing b first second = learn_nothing first b second
    one_learn (replies.Learned seen) b first second =
        learn_learned first.0 b second ∙ sym (learn_learned first.0 (replies.Learned seen) first)
    one_learn _ b first second = absurd first

module _ (sites : SitesView) (history : List Entry) where
  -- These are the predictions at the targets of an area that has this name.
  abbrev ArePredictedAt : Option (List ℕ) → List (Option Tenths) → Type 0
  ArePredictedAt name answers = IsSomeAnd name (λ n.
      ArePredictions sites.stations history (targets_of n sites.targets) answers)

  -- two lists of them
  one_area : (name : Option (List ℕ)) (a b : List (Option Tenths)) → ArePredictedAt name a
      → ArePredictedAt name b
      → b ≡ a
  one_area None a b first second = absurd first
  one_area (Some n) a b first second =
      one_list sites.stations history (targets_of n sites.targets) a b first second

module _ (sites : SitesView) (s : State) (area : ℕ) where
  -- the reply to a read
  read_read : (reading : Reading) → IsReadReply sites s area (replies.Read reading)
      → (reply : Reply) → IsReadReply sites s area reply → reply ≡ replies.Read reading
  read_read reading first (replies.Read other) is =
      let read : ℕ → List (Option Tenths) → Reply = λ n list.
      replies.Read (record { front = n; answers = list }) in
      let name : Option (List ℕ) = slice_get (areas_of sites.targets) area in
      let same = one_area sites (take s.published s.gathered) name reading.answers other.answers
      first.1 is.1 in
      ap (λ n. read n other.answers) (is.0 ∙ sym first.0) ∙ ap (read reading.front) same
  read_read reading first _ is = absurd is

  -- two replies to a read
  one_read : (a b : Reply) → IsReadReply sites s area a → IsReadReply sites s area b → b ≡ a
  one_read (replies.Read reading) b first second = read_read reading first b second
  one_read _ b first second = absurd first

module _ (setup : Setup) (sites : SitesView) where
  -- Two replies to one event are equal.
  one_reply : OneGreatest → (s : State) (event : Event) (a b : Reply)
      → IsReply setup sites s event a → IsReply setup sites s event b → b ≡ a
  one_reply one s (Take p) a b first second =
      one_take one (s.lanes (lane_of setup.lanes p.station.0)) p a b first second
  one_reply one s (Offer lane) a b first second =
      one_offer setup s (s.lanes lane.0) a b first second
  one_reply one s Pop a b first second = one_pop s.queue a b first second
  one_reply one s Append a b first second = one_append s a b first second
  one_reply one s Publish a b first second = second ∙ sym first
  one_reply one s (Read area) a b first second = one_read sites s area.0 a b first second
  one_reply one s (Learn area n) a b first second = one_learn s area.0 n a b first second

  -- So are two lists of replies.
  pub same_replies : OneGreatest → (s : State) (events : List Event) (all others : List Reply)
      → AreReplies setup sites s events all → AreReplies setup sites s events others → others ≡ all
  same_replies one s [] [] [] first second = refl
  same_replies one s [] [] (y ∷ others) first second = absurd second
  same_replies one s [] (x ∷ all) others first second = absurd first
  same_replies one s (event ∷ events) [] others first second = absurd first
  same_replies one s (event ∷ events) (x ∷ all) [] first second = absurd second
  same_replies one s (event ∷ events) (x ∷ all) (y ∷ others) first second =
      ap (λ z. z ∷ others) (one_reply one s event x y first.0 second.0)
      ∙ ap (λ zs. x ∷ zs) (same_replies one (step setup s event) events all others first.1 second.1)

  -- There is one reply for each event.
  pub one_for_each : (s : State) (events : List Event) (all : List Reply)
      → AreReplies setup sites s events all → length all ≡ length events
  one_for_each s [] [] are = refl
  one_for_each s [] (x ∷ all) are = absurd are
  one_for_each s (event ∷ events) [] are = absurd are
  one_for_each s (event ∷ events) (x ∷ all) are =
      ap suc (one_for_each (step setup s event) events all are.1)
