-- A centre that worked on a round.
use Rattle.std.proofs.Common.{◌≡◌, ◌<◌, true, false, List, length, map, get_or}
use Rattle.std.proofs.Common.{◌+◌, ◌≤◌, sym, ap, ◌∙◌, subst}
use Rattle.std.specs.Prelude.{All}
use Rattle.std.proofs.lemmas.List.{length-map, get_or-map}
use Rattle.plum_base.specs.declared.packet.Packet.{Packet}
use Rattle.plum_packet.specs.Reading.{MOST_RECORDS}
use Rattle.plum_lanes.specs.Gathering.{gathered}
use Rattle.plum_snap.specs.Sessions.{SessionView}
use Rattle.plum_centre.specs.declared.centre.Centre.{Centre}
use Rattle.plum_centre.specs.Centre.{CentreId, IsWhole, AreSessions}
use Rattle.plum_replay.specs.declared.round.looking.Watch.{Watch}
use Rattle.plum_replay.specs.Rounds.{HasLooked, HaveLooked, HaveShared, CanWork, HasWorked}
use Rattle.plum_replay.specs.Pieces.{CanFeed, HasFed, AllLook, session_in}
use Rattle.plum_replay.proofs.Lists.{some_of}

-- The sessions looked, where all are done.
pub HaveLooked-done : (before after : List Watch) → length after ≡ length before
    → AllLook before after → All (λ watch. watch.done ≡ true) after
    → HaveLooked (map session_in before) (map session_in after)
HaveLooked-done before after long looked done = record {
  long = length-map after session_in ∙ long ∙ sym (length-map before session_in);
  each = λ a d less.
      let here : a < length before = subst (λ n. a < n) (length-map before session_in) less in
      let here' : a < length after = subst (λ n. a < n) (sym long) here in
      let watch : Watch = some_of before a here in
      let was : get_or (map session_in before) a d ≡ (get_or before a watch).session =
      get_or-map session_in before a watch d here in
      let is : get_or (map session_in after) a d ≡ (get_or after a watch).session =
      get_or-map session_in after a watch d here' in
      subst (λ (y : SessionView × SessionView). HasLooked y.0 y.1)
      (λ j. (sym was j, sym is j)) (looked a watch here (done a watch here'));
}

-- Sessions that looked are those of the centre still.
AreSessions-looked : (id : CentreId) (before after : List SessionView)
    → HaveLooked before after → AreSessions id before → AreSessions id after
AreSessions-looked id before after looked are = record {
  all = looked.long ∙ are.all;
  each = λ a d less.
      let here : a < length before = subst (λ n. a < n) looked.long less in
      let was = are.each a d here in
      let now = looked.each a d here in
      record {
        publisher_is = ap (λ (s : SessionView). s.publisher) now.rest ∙ was.publisher_is;
        sites_are = ap (λ (s : SessionView). s.sites) now.rest ∙ was.sites_are;
        area_is = ap (λ (s : SessionView). s.area) now.rest ∙ was.area_is;
      };
}

module _ (id : CentreId) (packets : List Packet) (before : Centre)
    (can : CanWork id packets before) where
  -- Its feeder can turn.
  pub CanFeed-centre : CanFeed before.feeder
  CanFeed-centre = (
    id.opening,
    can.whole.lanes_are.gather_is,
    subst (λ n. length (gathered before.feeder.gather) ≤ MOST_RECORDS + n)
        (sym (ap length can.none_noted)) can.few,
  )

  module _ (after : Centre)
      (shared : HaveShared id.opening packets before.lanes.items after.lanes.items)
      (fed : HasFed before.feeder after.feeder) (allowed : after.feeder.refused ≡ false) where
    IsWhole-worked : AreSessions id after.sessions.items → IsWhole id after
    IsWhole-worked sessions = record {
      lanes_are = record {
        lanes_are = record {
          all = shared.long ∙ can.whole.lanes_are.lanes_are.all;
          each = λ i d less.
              let here : i < length before.lanes.items =
              subst (λ n. i < n) shared.long less in
              let room = can.share.room i d here in
              (shared.taken i d room.taken here room.has).is_lane;
        };
        gather_is = fed.gather id.opening can.whole.lanes_are.gather_is;
      };
      publisher_is = fed.goes_on.same_publisher ∙ can.whole.publisher_is;
      sessions_are = sessions;
    }

    -- Its sessions read,
    pub HasWorked-read : HaveLooked before.sessions.items after.sessions.items
        → HasWorked id packets true before after
    HasWorked-read looked = record {
      whole =
          IsWhole-worked (AreSessions-looked id before.sessions.items after.sessions.items
          looked can.whole.sessions_are);
      shared = shared;
      goes_on = fed.goes_on;
      allowed = allowed;
      looked = λ _. looked;
      as_before = λ is. absurd (cc is);
    }

    -- or did not.
    pub HasWorked-unread : after.sessions.items ≡ before.sessions.items
        → HasWorked id packets false before after
    HasWorked-unread same = record {
      whole = IsWhole-worked (subst (AreSessions id) (sym same) can.whole.sessions_are);
      shared = shared;
      goes_on = fed.goes_on;
      allowed = allowed;
      looked = λ is. absurd (cc is);
      as_before = λ _. same;
    }
