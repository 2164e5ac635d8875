-- The machine replies to events that name what exists.
use Rattle.std.proofs.Common.{◌≡◌, ℕ, ◌<◌, ◌≤◌, ◌⊎◌, false, List, [], ◌∷◌, ◌++◌, length}
use Rattle.std.proofs.Common.{get_or, take, Option, Some, None, inl, inr, refl, sym, ap, subst}
use Rattle.std.proofs.Common.{true, ◌∙◌, arith}
use lib.Signed.{≤ℤ_refl}
use Rattle.std.proofs.lemmas.Bool.{cases_Bool, cases_eq, cases_lt, true≢false, leb-true, leb-false}
use Rattle.std.proofs.lemmas.Int.{ints}
use Rattle.std.proofs.lemmas.List.Elements.{All-head, All-tail}
use Rattle.std.proofs.lemmas.Option.{slice_get-get_or}
use Rattle.std.specs.Prelude.{max, is_some, IsSomeAnd, ◌*◌, nat_le, int_le, All}
use Rattle.plum_base.specs.declared.answers.Reading.{Reading}
use Rattle.plum_base.specs.declared.entry.Entry.{Entry}
use Rattle.plum_base.specs.declared.lane.Took.TheVariants as tooks
use Rattle.plum_base.specs.declared.lane.Offered.TheVariants as offers
use Rattle.plum_base.specs.declared.numbers.Key.{Key}
use Rattle.plum_base.specs.declared.numbers.Point.{Point}
use Rattle.plum_base.specs.declared.numbers.Tenths.{Tenths}
use Rattle.plum_base.specs.declared.packet.Packet.{Packet}
use Rattle.plum_base.specs.declared.setup.Setup.{Setup}
use Rattle.plum_base.specs.declared.sites.StationSite.{StationSite}
use Rattle.plum_base.specs.declared.sites.TargetSite.{TargetSite}
use Rattle.plum_base.specs.Lane.{lane_of}
use Rattle.plum_base.specs.Sites.{SitesView, areas_of}
use Rattle.plum_base.proofs.Pushes.{by_push}
use Rattle.plum_seq.specs.Keys.{keys_of, is_above_all, is_kept, greatest_key}
use Rattle.plum_seq.specs.Laws.{GreatestIs, NoneGreatest}
use Rattle.plum_geo.specs.Prediction.{RADIUS}
use Rattle.plum_geo.specs.Prediction.{shown, corrected, plus_factor, IsNear, is_near}
use Rattle.plum_geo.specs.Prediction.{distance_squared, FindsNear, IsBest}
use Rattle.plum_geo.specs.Prediction.{IsAtMost}
use Rattle.plum_geo.proofs.Predictions.{SaysSome, SaysNone, IsBest-nil, IsBest-push}
use Rattle.plum_core.specs.declared.event.Event.{Event}
use Rattle.plum_core.specs.declared.event.Event.TheVariants.{Take, Offer, Pop, Append, Publish}
use Rattle.plum_core.specs.declared.event.Event.TheVariants.{Read, Learn}
use Rattle.plum_core.specs.declared.event.Reply.{Reply}
use Rattle.plum_core.specs.declared.event.Reply.TheVariants as replies
use Rattle.plum_core.specs.Machine.{Lane, State, step, IsTakeReply, IsOfferReply, IsPopReply}
use Rattle.plum_core.specs.Machine.{IsAppendReply, IsReadReply, IsLearnReply, IsReply, AreReplies}
use Rattle.plum_core.specs.Machine.{NamesExist}
use Rattle.plum_core.specs.Transcript.{ArePredictions}
use Rattle.plum_base.specs.Sites.{targets_of}

-- some reply of which this holds
abbrev HasReply : (Reply → Type 0) → Type 0
HasReply Is = (reply : Reply) × Is reply

-- Where a key is not above all of these, there is a greatest of these.
has_greatest_key : NoneGreatest → (keys : List Key) (key : Key) → is_above_all keys key ≡ false
    → (last : Key) × (greatest_key keys ≡ Some last)
has_greatest_key none_greatest keys key is =
    elim (greatest_key keys) as (λ o. greatest_key keys ≡ o
    → (last : Key) × (greatest_key keys ≡ Some last)) [
      | None ↦ λ none.
          let above : is_above_all keys key ≡ true =
          ap (λ ks. is_above_all ks key) (none_greatest keys none) in
          absurd (true≢false (sym above ∙ is))
      | Some last ↦ λ some. (last, some)
    ] refl

-- a reply to a packet
has_take_reply : GreatestIs → NoneGreatest → (lane : Lane) (p : Packet) (waiting : Option Entry)
    → lane.waiting ≡ waiting → HasReply (IsTakeReply lane p)
has_take_reply greatest_is none_greatest lane p (Some e) is = (replies.Held, ap is_some is)
has_take_reply greatest_is none_greatest lane p None is = elim (cases_Bool (is_kept lane.taken p)) [
  | inl fresh ↦ (replies.Took tooks.Ready, (is, fresh))
  | inr repeat ↦
      let keys : List Key = keys_of p.station.0 lane.taken in
      let found = has_greatest_key none_greatest keys p.key repeat in
      (replies.Took (tooks.Repeat found.0), (is, (repeat, greatest_is keys found.0 found.1)))
]

-- to an offer
has_offer_reply : (setup : Setup) (s : State) (lane : Lane) (waiting : Option Entry)
    → lane.waiting ≡ waiting → HasReply (IsOfferReply setup s lane)
has_offer_reply setup s lane None is = (replies.Idle, is)
has_offer_reply setup s lane (Some e) is = elim (cases_eq (length s.queue) setup.queue) [
  | inl full ↦ (replies.Offered offers.Busy, (ap is_some is, full))
  | inr room ↦ (replies.Offered offers.Sent, (ap is_some is, room))
]

-- to a pop
has_pop_reply : (queue : List Entry) → HasReply (IsPopReply queue)
has_pop_reply [] = (replies.Empty, refl)
has_pop_reply (e ∷ es) = (replies.Popped e.key, refl)

-- to an append
has_append_reply : (s : State) → HasReply (IsAppendReply s)
has_append_reply s = elim (cases_eq s.appended (length s.gathered)) [
  | inl all ↦ (replies.Nothing, all)
  | inr left ↦ (replies.Appended, left)
]

-- to a session that is told of n entries
has_learn_reply : (s : State) (area n : ℕ) → HasReply (IsLearnReply s area n)
has_learn_reply s area n = elim (cases_lt s.published n) [
  | inl past ↦ (replies.Nothing, past)
  | inr within ↦ (replies.Learned (max n (s.seen area)), (within, refl))
]

-- one of two that is at least both; none is below each value
record IsGreater (a b after : Option Tenths) : Type 0 where
  first : IsAtMost a after
  second : IsAtMost b after
  one : (after ≡ a) ⊎ (after ≡ b)

-- There is a greater of two.
has_greater : (a b : Option Tenths) → (after : Option Tenths) × IsGreater a b after
has_greater None None = (None, record { first = tt; second = tt; one = inl refl })
has_greater None (Some b) = (Some b, record { first = tt; second = ≤ℤ_refl b.0; one = inr refl })
has_greater (Some a) None = (Some a, record { first = ≤ℤ_refl a.0; second = tt; one = inl refl })
has_greater (Some a) (Some b) = elim (cases_Bool (int_le a.0 b.0)) [
  | inl is ↦ (Some b, record { first = grind (arith, ints); second = ≤ℤ_refl b.0; one = inr refl })
  | inr is ↦ (Some a, record { first = ≤ℤ_refl a.0; second = grind (arith, ints); one = inl refl })
]

-- what is past is not within
not_within : (a b : ℕ) → nat_le a b ≡ false → a ≤ b → ⊥
not_within a b past within = absurd (omega (arith, leb-false a b past))

module _ (values : ℕ → Option Tenths) (place : Point) where
  -- what a station says at the place
  record Says (site : StationSite) (n : ℕ) (said : Option Tenths) : Type 0 where
    some : SaysSome values place site n said
    none : SaysNone values place site n said

  -- A near station says something or nothing,
  near_says : (site : StationSite) (n : ℕ) → IsNear site.at place → (value : Option Tenths)
      → values n ≡ value → (said : Option Tenths) × Says site n said
  near_says site n near None shows = (None, record { some = tt; none = λ _. shows })
  near_says site n near (Some value) shows =
      let said : Tenths = record { 0 = corrected site value } in
      (Some said, record { some = (near, value, shows, refl); none = tt })

  -- and so does any other.
  has_said : (site : StationSite) (n : ℕ) → (said : Option Tenths) × Says site n said
  has_said site n =
      let distance : ℕ = distance_squared site.at place in
      let radius : ℕ = RADIUS * RADIUS in
      elim (cases_Bool (is_near site.at place)) [
        | inl is ↦ near_says site n (leb-true distance radius is) (values n) refl
        | inr is ↦
            (None, record { some = tt; none = λ near. absurd (not_within distance radius is near) })
      ]

  -- There is a best at the place.
  has_best : FindsNear → (stations : List StationSite)
      → (best : Option Tenths) × IsBest stations values place best
  has_best finds =
      let P : List StationSite → Type 0 = λ stations.
      (best : Option Tenths) × IsBest stations values place best in
      let more : (stations : List StationSite) (site : StationSite) → P stations
      → P (stations ++ site ∷ []) = λ stations site before.
      let said = has_said site (length stations) in
      let greater = has_greater before.0 said.0 in (
        greater.0,
        IsBest-push values place finds stations site before.0 said.0 greater.0 before.1 said.1.some
            said.1.none greater.1.first greater.1.second greater.1.one,
      ) in
      by_push P (None, IsBest-nil values place finds) more

-- There is a prediction at each of these targets.
has_predictions : FindsNear → (stations : List StationSite) (history : List Entry)
    (targets : List TargetSite)
    → (answers : List (Option Tenths)) × ArePredictions stations history targets answers
has_predictions finds stations history [] = ([], tt)
has_predictions finds stations history (target ∷ targets) =
    let best = has_best (shown (length stations) history) target.at finds stations in
    let others = has_predictions finds stations history targets in
    (plus_factor target best.0 ∷ others.0, ((best.0, best.1, refl), others.1))

-- a reply to a read
has_read_reply : FindsNear → (sites : SitesView) (s : State) (area : ℕ)
    → area < length (areas_of sites.targets) → HasReply (IsReadReply sites s area)
has_read_reply finds sites s area below =
    let names : List (List ℕ) = areas_of sites.targets in
    let name : List ℕ = get_or names area [] in
    let history : List Entry = take s.published s.gathered in
    let found = has_predictions finds sites.stations history (targets_of name sites.targets) in
    let reading : Reading = record { front = s.published; answers = found.0 } in
    let Predicted : Option (List ℕ) → Type 0 = λ o. IsSomeAnd o (λ n.
    ArePredictions sites.stations history (targets_of n sites.targets) found.0) in
    let named = slice_get-get_or names area [] below in
    (replies.Read reading, (refl, subst Predicted (sym named) found.1))

module _ (greatest_is : GreatestIs) (none_greatest : NoneGreatest) (finds : FindsNear)
    (setup : Setup) (sites : SitesView) where
  -- a reply to any event
  has_reply : (s : State) (event : Event) → NamesExist setup sites event
      → HasReply (IsReply setup sites s event)
  has_reply s (Take p) exist =
      let lane = s.lanes (lane_of setup.lanes p.station.0) in
      has_take_reply greatest_is none_greatest lane p lane.waiting refl
  has_reply s (Offer lane) exist =
      has_offer_reply setup s (s.lanes lane.0) (s.lanes lane.0).waiting refl
  has_reply s Pop exist = has_pop_reply s.queue
  has_reply s Append exist = has_append_reply s
  has_reply s Publish exist = (replies.Published s.appended, refl)
  has_reply s (Read area) exist = has_read_reply finds sites s area.0 exist
  has_reply s (Learn area n) exist = has_learn_reply s area.0 n

  -- There is a reply to each event.
  pub has_replies : (s : State) (events : List Event) → All (NamesExist setup sites) events
      → (all : List Reply) × AreReplies setup sites s events all
  has_replies s [] exist = ([], tt)
  has_replies s (event ∷ events) exist =
      let here = has_reply s event (All-head (NamesExist setup sites) event events exist) in
      let others = All-tail (NamesExist setup sites) event events exist in
      let more = has_replies (step setup s event) events others in
      (here.0 ∷ more.0, (here.1, more.1))
